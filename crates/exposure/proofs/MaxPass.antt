-- The pass over the members that finds a day's own Max EUL: the greatest EUL of the members passed, and the rows of their groups. One
-- member's row joins one group's, number by number.
use mathlib.Core.Path.{◌≡◌, refl, sym, ap, ap₂, ◌∙◌, fun_ext}
use mathlib.Core.Bool.{Bool, true, false, cond}
use mathlib.Core.List.{List, [], map}
use Prim.Native.Nat.{ℕ, zero, suc, ◌+◌, ◌-◌, ◌*◌, ◌≤◌, ◌<◌, ◌^◌, max}
use native.Mathlib.Omega.{arith}
use lib.Dec.{ltb}
use lib.IntN.{ℤ, pos, nat_abs}
use lib.Seq.{get_or-take}
use lib.ListN.{length, get_or, set, length-set, replicate, get_or-replicate, length-replicate}
use Rattle.std.specs.List.{range_with_len}
use Rattle.std.proofs.lemmas.List.FromFn.{length-map-range_with_len, get_or-map-range_with_len}
use Rattle.numbers.specs.Signed.{◌⁺}
use Rattle.numbers.specs.Sums.{greatest}
use Rattle.numbers.proofs.Lists.{at_set, replicate_at, upto_more, mem_range, is_table, map_eq}
use Rattle.numbers.proofs.Sums.{greatest_snoc, greatest_map, greatest_eq}
use Rattle.methodology.specs.declared.Opening.{Opening}
use Rattle.methodology.specs.Account.{Account, scenarios}
use Rattle.methodology.specs.Member.{accounts_of, member_under}
use Rattle.methodology.specs.Day.{group_number, own_max_eul}
use Rattle.validation.specs.Slices.{listed}
use Rattle.exposure.specs.declared.accounts.Accounts.{Accounts}
use Rattle.exposure.specs.GroupRows.{row_of, plus, Near, Shape, with_row}
use Rattle.exposure.specs.AccountsIn.{accounts_in, most_eul, RowIs}
use Rattle.exposure.specs.DayFigures.{Grouped}
use Rattle.exposure.proofs.Left.{Left}
use Rattle.exposure.proofs.Groups.{row_upto, row_none, row_in, row_out, max_by_rows}
use Rattle.exposure.proofs.Tables.{plus_row, plus_long, plus_bound, row_greatest}

-- rows within a bound
pub record Rows (most : ℕ) (rows : List (List ℤ)) : Type 0 where
  pub tall : length rows ≡ 32
  pub wide : (g : ℕ) → g < 32 → length (get_or rows g []) ≡ 16
  pub bound : (g x : ℕ) → g < 32 → nat_abs (get_or (get_or rows g []) x (pos 0)) ≤ most

shape : {most : ℕ} {rows : List (List ℤ)} → most ≤ 2 ^ 61 → Rows most rows → Shape rows
shape h r = record { tall = r.tall; wide = r.wide; near = λ g l. record { at = λ x. omega (arith, r.bound g x l) } }

-- no member passed: all rows are 0
zeros : (k : ℕ) (f : ℕ → ℤ) → ((j : ℕ) → f j ≡ pos 0) → row_of k f ≡ replicate 16 (pos 0)
unfolding row_of
zeros k f h = map_eq (λ x. cond (ltb x k) (f (suc x)) (pos 0)) (λ x. pos 0) (range_with_len 0 16) (λ x m. by x (ltb x k))
  where
    by : (x : ℕ) (t : Bool) → cond t (f (suc x)) (pos 0) ≡ pos 0
    by x true = h (suc x)
    by x false = refl

none_rows : Rows 0 (replicate 32 (replicate 16 (pos 0)))
none_rows =
    record {
      tall = length-replicate 32 (replicate 16 (pos 0));
      wide = λ g h. rw (get_or-replicate 32 g (replicate 16 (pos 0)) [] h) (length-replicate 16 (pos 0));
      bound = λ g x h. rw (get_or-replicate 32 g (replicate 16 (pos 0)) [] h, replicate_at 16 x (pos 0)) (omega arith);
    }

-- a row joins its group's: the others stay, and none grows past the sum of the bounds
module _ {most : ℕ} {rows : List (List ℤ)} (row : List ℤ) (more : ℕ) (r : Rows most rows) (l : length row ≡ 16) (b : (x : ℕ) → nat_abs (get_or row x (pos 0)) ≤ more) where
  with_rows : (group : ℕ) → group ≤ 32 → Rows (most + more) (with_row rows group row)
  unfolding with_row
  with_rows zero h = record { tall = r.tall; wide = r.wide; bound = λ g x k. omega (arith, r.bound g x k) }
  with_rows (suc g₀) h =
      let sum = plus (get_or rows g₀ []) row in
      let inside : g₀ < length rows = omega (arith, r.tall) in
      record {
        tall = length-set rows g₀ sum ∙ r.tall;
        wide = at_set (λ g z. g < 32 → length z ≡ 16) rows g₀ sum [] inside (λ k. plus_long (get_or rows g₀ []) row) (λ g q. r.wide g);
        bound =
            at_set (λ g z. (x : ℕ) → g < 32 → nat_abs (get_or z x (pos 0)) ≤ most + more) rows g₀ sum [] inside
            (λ x k. plus_bound (get_or rows g₀ []) row (λ y. r.bound g₀ y k) b x)
            (λ g q x k. omega (arith, r.bound g x k));
      }

-- the rows of all groups, when the first i members are passed
abbrev rows_at : Opening → List Account → (i : ℕ) → List (List ℤ)
rows_at o accts i = map (λ g. row_of o.k (row_upto o accts i g)) (range_with_len 1 32)

module _ (o : Opening) (accts : List Account) where
  rows_none : replicate 32 (replicate 16 (pos 0)) ≡ rows_at o accts 0
  rows_none =
      is_table (λ g. row_of o.k (row_upto o accts 0 g)) 1 32 [] (replicate 32 (replicate 16 (pos 0))) (length-replicate 32 (replicate 16 (pos 0)))
      (λ x h. get_or-replicate 32 x (replicate 16 (pos 0)) [] h ∙ sym (zeros o.k (row_upto o accts 0 (1 + x)) (λ j. row_none o accts (1 + x) j)))

  -- member i + 1's row
  abbrev row_next : (i : ℕ) → List ℤ
  row_next i = row_of o.k (λ j. member_under accts (i + 1) j)

  group_next : (i : ℕ) → group_number o (i + 1) ≡ get_or o.groups i 0
  group_next i = let e : i + 1 - 1 ≡ i = omega arith in ap (λ (n : ℕ). get_or o.groups n 0) e

  -- where member i + 1 is not of group g, and where it is
  stays : (i g : ℕ) → (get_or o.groups i 0 ≡ g → ⊥) → row_of o.k (row_upto o accts i g) ≡ row_of o.k (row_upto o accts (i + 1) g)
  stays i g n = ap (row_of o.k) (fun_ext (λ j. sym (row_out o accts g j i (λ e. n (sym (group_next i) ∙ e)))))

  joins : (i g : ℕ) → get_or o.groups i 0 ≡ g → plus (row_of o.k (row_upto o accts i g)) (row_next i) ≡ row_of o.k (row_upto o accts (i + 1) g)
  joins i g e =
      plus_row o.k (row_upto o accts i g) (λ j. member_under accts (i + 1) j)
      ∙ ap (row_of o.k) (fun_ext (λ j. sym (row_in o accts g j i (group_next i ∙ e))))

  rows_by : (i group : ℕ) → get_or o.groups i 0 ≡ group → group ≤ 32 → with_row (rows_at o accts i) group (row_next i) ≡ rows_at o accts (i + 1)
  unfolding with_row
  rows_by i zero e l =
      map_eq _ _ (range_with_len 1 32) (λ g m. stays i g (λ q. let r = mem_range 1 32 m in omega arith))
  rows_by i (suc g₀) e l =
      let rows = rows_at o accts i in
      let sum = plus (get_or rows g₀ []) (row_next i) in
      let g : get_or o.groups i 0 ≡ 1 + g₀ = omega arith in
      is_table next 1 32 [] (set rows g₀ sum) (length-set rows g₀ sum ∙ length-map-range_with_len now 1 32)
      (at_set (λ x r. x < 32 → r ≡ next (1 + x)) rows g₀ sum [] (omega (arith, length-map-range_with_len now 1 32))
      (λ h. ap (λ (r : List ℤ). plus r (row_next i)) (get_or-map-range_with_len now 1 32 g₀ (1 + g₀) [] h refl) ∙ joins i (1 + g₀) g)
      (λ x n h. get_or-map-range_with_len now 1 32 x (1 + x) [] h refl ∙ stays i (1 + x) (λ z. n (omega arith))))
    where
      now : ℕ → List ℤ
      now g = row_of o.k (row_upto o accts i g)

      next : ℕ → List ℤ
      next g = row_of o.k (row_upto o accts (i + 1) g)

  -- the greatest of all rows
  rows_greatest : o.k ≤ 16 → (i : ℕ) → greatest (rows_at o accts i) (λ row. greatest row (λ z. z ⁺)) ≡ greatest (range_with_len 1 32) (λ g. greatest (scenarios o.k) (λ j. row_upto o accts i g j ⁺))
  rows_greatest h i =
      greatest_map _ (range_with_len 1 32) (λ row. greatest row (λ z. z ⁺))
      ∙ greatest_eq (range_with_len 1 32) _ _ (λ g m. row_greatest o.k (row_upto o accts i g) h)

pub record MaxPass (o : Opening) (all : List Account) (rows : List (List ℤ)) (top i : ℕ) (a : Accounts) : Type 0 where
  pub place : Left o.k all i a
  pub bounded : Rows (most_eul * i) rows
  pub rows_are : rows ≡ rows_at (listed o) all i
  pub top_is : top ≡ greatest (range_with_len 1 i) (λ m. greatest (scenarios o.k) (λ j. member_under all m j ⁺))

module _ (o : Opening) (all : List Account) where
  pub max_none : {a : Accounts} → Left o.k all 0 a → MaxPass o all (replicate 32 (replicate 16 (pos 0))) 0 0 a
  unfolding greatest
  max_none p = record { place = p; bounded = none_rows; rows_are = rows_none (listed o) all; top_is = refl }

  module _ {rows : List (List ℤ)} {top i : ℕ} {a : Accounts} (p : MaxPass o all rows top i a) where
    pub rows_shape : i ≤ 32 → Shape rows
    rows_shape h = shape (omega arith) p.bounded

    module _ (own next : Accounts) (row : List ℤ) (q : (own.k ≡ o.k) × (accounts_in own ≡ accounts_of (i + 1) all))
        (r : RowIs own.k (accounts_in own) row) where
      row_is : row ≡ row_next (listed o) all i
      unfolding member_under
      row_is = rw (r.is, q.1, q.0)

      pub row_long : length row ≡ 16
      unfolding row_of
      row_long = rw row_is refl

      pub row_near : Near row
      row_near = record { at = λ x. omega (arith, r.bound x) }

      pub max_more : i < o.n → o.k ≤ 16 → get_or o.groups i 0 ≤ 32 → Left o.k all (i + 1) next
          → (most top' : ℕ) → most ≡ greatest row (λ z. z ⁺) → top' ≡ max top most
          → MaxPass o all (with_row rows (get_or o.groups i 0) row) top' (i + 1) next
      max_more h few g place most top' e f =
          let sum : most_eul * i + most_eul ≡ most_eul * (i + 1) = omega arith in
          record {
            place = place;
            bounded = rw sum at (with_rows row most_eul p.bounded row_long r.bound (get_or o.groups i 0) g);
            rows_are = rw (p.rows_are, row_is) (rows_by (listed o) all i (get_or o.groups i 0) (get_or-take o.n o.groups i 0 h) g);
            top_is =
                rw (upto_more i, greatest_snoc)
                (f ∙ ap₂ max p.top_is (e ∙ ap (λ (x : List ℤ). greatest x (λ z. z ⁺)) row_is ∙ row_greatest o.k (member_under all (i + 1)) few));
          }

    pub max_all : i ≤ o.n → o.n ≤ i → o.k ≤ 16 → Grouped o → (most r : ℕ) → most ≡ greatest rows (λ row. greatest row (λ z. z ⁺)) → r ≡ max top most
        → r ≡ own_max_eul (listed o) all
    max_all h h' few g most r e f =
        let n : i ≡ o.n = omega arith in
        f
        ∙ ap₂ max
        (p.top_is ∙ ap (λ (x : ℕ). greatest (range_with_len 1 x) (λ m. greatest (scenarios o.k) (λ j. member_under all m j ⁺))) n)
        (e ∙ ap (λ (x : List (List ℤ)). greatest x (λ row. greatest row (λ z. z ⁺))) p.rows_are
        ∙ rows_greatest (listed o) all few i
        ∙ ap (λ (x : ℕ). greatest (range_with_len 1 32) (λ m. greatest (scenarios o.k) (λ j. row_upto (listed o) all x m j ⁺))) n)
        ∙ sym (max_by_rows (listed o) all 32 (λ m q. let z = mem_range 1 o.n q in rw (get_or-take o.n o.groups (m - 1) 0 (omega arith)) (g.few (m - 1) (omega arith))))
