-- How a program fills a list: a table place by place, and a buffer row by row. Each has its start, its step and its end.
use mathlib.Core.Path.{◌≡◌, refl, ◌∙◌}
use mathlib.Core.Bool.{Bool, true, false}
use mathlib.Core.List.{List, ◌++◌, map, flat_map, append-nil}
use Prim.Native.Nat.{ℕ, ◌+◌, ◌-◌, ◌*◌, ◌≤◌, ◌<◌}
use native.Mathlib.Omega.{arith}
use lib.Dec.{ltb}
use lib.ListN.{length, get_or, take, drop, set, length-drop, length-set, drop_of_length-le}
use lib.Seq.{take_all, get_or-set_other}
use borrow.Author.Count.{below_none}
use borrow.Author.Tests.{ltb-true, ltb-false}
use borrow.Rule.Slice.PartMut.{put_mid, mid_of, same_len_mid}
use Rattle.std.specs.List.{range_with_len}
use Rattle.std.proofs.lemmas.List.FromFn.{fill_by_all}
use Rattle.numbers.proofs.Lists.{at_set}
use Rattle.numbers.proofs.Rows.{rows_none, rows_more, rows_end}

-- a list of n elements: the first i are f's, the others still those of `old`; past the end stands d
pub record Filled {A : Type 0} (n : ℕ) (f : ℕ → A) (d : A) (old : List A) (i : ℕ) (l : List A) : Type 0 where
  pub high : i ≤ n
  pub long : length l ≡ n
  pub done : (x : ℕ) → x < i → get_or l x d ≡ f x
  pub rest : (x : ℕ) → i ≤ x → get_or l x d ≡ get_or old x d

module _ {A : Type 0} (n : ℕ) (f : ℕ → A) (d : A) (old : List A) where
  pub filled_none : length old ≡ n → Filled n f d old 0 old
  filled_none h = record { high = omega arith; long = h; done = below_none _; rest = λ x l. refl }

  pub filled_more : {l : List A} {i : ℕ} {v : A} → i < n → v ≡ f i → Filled n f d old i l → Filled n f d old (i + 1) (set l i v)
  filled_more {l} {i} {v} h e p =
      record {
        high = omega arith;
        long = length-set l i v ∙ p.long;
        done = at_set (λ x y. x < i + 1 → y ≡ f x) l i v d (omega (arith, p.long)) (λ k. e) (λ x q k. p.done x (omega arith));
        rest = λ x k. get_or-set_other l i x v d (λ q. omega arith) ∙ p.rest x (omega arith);
      }

  -- at the end all are f's: the first i, and the others where `old` has them already
  pub filled_rest : {l : List A} {i : ℕ} → ((x : ℕ) → i ≤ x → x < n → get_or old x d ≡ f x) → Filled n f d old i l → l ≡ map f (range_with_len 0 n)
  filled_rest {l} {i} same p = fill_by_all f l n d p.long (λ x h. by x (ltb x i) refl h)
    where
      by : (x : ℕ) (t : Bool) → ltb x i ≡ t → x < n → get_or l x d ≡ f x
      by x true q h = p.done x (ltb-true x i q)
      by x false q h = let g = ltb-false x i q in p.rest x g ∙ same x g h

  pub filled_all : {l : List A} {i : ℕ} → n ≤ i → Filled n f d old i l → l ≡ map f (range_with_len 0 n)
  filled_all k p = filled_rest (λ x h g. let no_way : ⊥ = omega arith in absurd no_way) p

-- what out holds when all of it from a on was lent, and came back with row in place of the first w elements
tail_back : {A : Type 0} (a w : ℕ) (row out back : List A) → back ≡ row ++ drop w (take (length out - a) (drop a out))
    → put_mid a (length out - a) out back ≡ take a out ++ (row ++ drop w (drop a out))
tail_back a w row out back e =
    let h : length (drop a out) ≤ length out - a = omega (arith, length-drop a out) in
    rw (e, take_all (length out - a) (drop a out) h, drop_of_length-le (drop a out) h, append-nil)

-- a buffer of n rows of one width w, `out₀` at first: it holds the rows of the first i of xs. Each row is written to the front of the rest
-- of the buffer, lent from the row's place on
pub record FilledRows {A B : Type 0} (w : ℕ) (f : A → List B) (xs : List A) (n : ℕ) (out₀ : List B) (i : ℕ) (out : List B) : Type 0 where
  pub count : i ≤ n
  pub long : length out ≡ w * n
  pub rows : out ≡ flat_map f (take i xs) ++ drop (w * i) out₀

module _ {A B : Type 0} (w : ℕ) (f : A → List B) (wide : (x : A) → length (f x) ≡ w) {xs : List A} {n : ℕ} (fits : n ≤ length xs) {out₀ : List B} where
  pub filled_rows_none : length out₀ ≡ w * n → FilledRows w f xs n out₀ 0 out₀
  filled_rows_none long = record { count = omega arith; long = long; rows = rows_none w f wide xs out₀ }

  pub filled_rows_more : (d : A) {i : ℕ} {out back : List B} → i < n → FilledRows w f xs n out₀ i out → length back ≡ length (mid_of (w * i) (length out - w * i) out)
      → back ≡ f (get_or xs i d) ++ drop w (take (length out - w * i) (drop (w * i) out))
      → FilledRows w f xs n out₀ (i + 1) (put_mid (w * i) (length out - w * i) out back)
  filled_rows_more d {i} {out} {back} h b kept e =
      record {
        count = omega arith;
        long = same_len_mid (w * i) (length out - w * i) out back kept ∙ b.long;
        rows = rows_more w f wide xs i d out₀ out _ (omega arith) b.rows (tail_back (w * i) w (f (get_or xs i d)) out back e);
      }

  pub filled_rows_all : {i : ℕ} {out : List B} → length out₀ ≡ w * n → n ≤ i → FilledRows w f xs n out₀ i out → out ≡ flat_map f (take n xs)
  filled_rows_all {i} {out} long h b =
      let all : i ≡ n = omega arith in
      rows_end w f wide xs n out₀ out (omega arith) (rw all at b.rows)
