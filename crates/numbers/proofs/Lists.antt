-- Lists: members, ranges, tables, parts, kept elements, and the first that passes a test. An element is read by `get_or`.
-- A law about each element takes a function on the members, `(x : A) → x ∈ xs → ..`; `by_index` makes one of a fact about each index.
use mathlib.Core.Path.{◌≡◌, refl, sym, ap, ap₂, ◌∙◌, subst}
use mathlib.Core.Bool.{Bool, true, false, not, cond, ◌||◌, or-true}
use mathlib.Core.List.{List, [], ◌∷◌, ◌++◌, map, flat_map, append-nil}
use mathlib.Core.List.Memᴰ
use mathlib.Core.List.Permᴰ
use mathlib.Core.List.Memᴰ.{head as here}
use mathlib.Core.List.Memᴰ.{tail as there}
use mathlib.Core.List.{Memᴰ, Permᴰ}
use Prim.Native.Nat.{ℕ, zero, suc, ◌+◌, ◌-◌, ◌≤◌, ◌<◌}
use native.Mathlib.Omega.{arith}
use native.Mathlib.Numerals.{add-one}
use native.Mathlib.Nat.{not-suc-le-zero, le_of_suc-le-suc, add-zero, zero-add, suc-add, add-suc, add_comm, sub-zero, zero-sub, suc-sub-suc}
use lib.Dec.{eqb, ltb}
use lib.ListN.{length, get_or, take, drop, set, replicate, length-drop}
use lib.Seq.{drop-drop, take-nil, drop-nil, take-take, get_or-take, get_or-drop, get_or-set_same, get_or-set_other, length-take-le, ext_get_or}
use borrow.Author.Count.{below_none, below_more}
use borrow.Author.Tests.{eqb-true, eqb-false, ltb-false}
use Rattle.std.specs.Prelude.{unwrap_or}
use Rattle.std.specs.List.{filter, list_any, AllByRecursion, range_with_len, position, position_or_len}
use Rattle.std.proofs.lemmas.List.Sums.{prefix_len-le-length}
use Rattle.std.proofs.lemmas.List.FromFn.{length-range_with_len, get_or-range_with_len, length-map-range_with_len, get_or-map-range_with_len}
use Rattle.numbers.proofs.Tests.{neither}

infix 50 ◌∈◌
-- x is one of the elements
abbrev pub ◌∈◌ : {A : Type 0} → A → List A → Type 0
x ∈ xs = Memᴰ x xs

-- the element at an index is a member, and each member stands at an index
pub mem_at : {A : Type 0} (xs : List A) (d : A) {i : ℕ} → i < length xs → get_or xs i d ∈ xs
mem_at [] d h = absurd (not-suc-le-zero h)
mem_at (x ∷ xs) d {i = zero} h = here refl
mem_at (x ∷ xs) d {i = suc i} h = there (mem_at xs d (le_of_suc-le-suc h))

mem_index : {A : Type 0} {x : A} {xs : List A} (d : A) → x ∈ xs → (i : ℕ) × (i < length xs) × (get_or xs i d ≡ x)
mem_index d (here e) = (0, omega arith, sym e)
mem_index d (there m) = let (i, h, e) = mem_index d m in (suc i, omega arith, e)

pub mem_some : {A : Type 0} {x : A} {xs : List A} → x ∈ xs → 0 < length xs
mem_some (here q) = omega arith
mem_some (there m) = omega arith

pub by_index : {A : Type 0} (P : A → Type 0) (xs : List A) (d : A) → ((i : ℕ) → i < length xs → P (get_or xs i d)) → (x : A) → x ∈ xs → P x
by_index P xs d h x m = let (i, k, e) = mem_index d m in subst P e (h i k)

-- what holds at each index and of the default holds past the end too
pub at_any : {A : Type 0} (P : A → Type 0) (xs : List A) (d : A) → P d → ((i : ℕ) → i < length xs → P (get_or xs i d)) → (i : ℕ) → P (get_or xs i d)
at_any P [] d z h i = z
at_any P (x ∷ xs) d z h zero = h 0 (omega arith)
at_any P (x ∷ xs) d z h (suc i) = at_any P xs d z (λ j k. h (suc j) (omega arith)) i

-- one element replaced: what holds of the new one and of each other at its index holds at each index
pub at_set : {A : Type 0} (P : ℕ → A → Type 0) (xs : List A) (i : ℕ) (v d : A) → i < length xs → P i v → ((j : ℕ) → (j ≡ i → ⊥) → P j (get_or xs j d)) → (j : ℕ) → P j (get_or (set xs i v) j d)
at_set P xs i v d h p q j = by (eqb j i) refl
  where
    by : (t : Bool) → eqb j i ≡ t → P j (get_or (set xs i v) j d)
    by true e = rw (eqb-true j i e, get_or-set_same xs i v d h) p
    by false e = rw (get_or-set_other xs i j v d (eqb-false j i e)) (q j (eqb-false j i e))

-- from one index to a later one, step by step
pub by_steps : (P : ℕ → Type 0) (i j : ℕ) → i ≤ j → P i → ((k : ℕ) → i ≤ k → k < j → P k → P (suc k)) → P j
by_steps P i j h p step = let e : i + (j - i) ≡ j = omega arith in subst P e (by (j - i) (omega arith))
  where
    by : (n : ℕ) → i + n ≤ j → P (i + n)
    by zero l = rw add-zero p
    by (suc n) l = rw add-suc (step (i + n) (omega arith) (omega arith) (by n (omega arith)))

-- the same element many times, and past the end
pub replicate_at : {A : Type 0} (n i : ℕ) (x : A) → get_or (replicate n x) i x ≡ x
replicate_at zero i x = refl
replicate_at (suc n) zero x = refl
replicate_at (suc n) (suc i) x = replicate_at n i x

-- a list has no element, or some
pub none_or_some : {A P : Type 0} (xs : List A) → (xs ≡ [] → P) → (0 < length xs → P) → P
none_or_some [] f g = f refl
none_or_some (x ∷ xs) f g = g (omega arith)

-- ranges: one after another, and one number more at the end
pub range_append : (a m n : ℕ) → range_with_len a (m + n) ≡ range_with_len a m ++ range_with_len (a + m) n
range_append a zero n = rw (add-zero, zero-add)
range_append a (suc m) n =
    let e : a + suc m ≡ a + 1 + m = omega arith in
    rw (suc-add, e) (ap (λ (l : List ℕ). a ∷ l) (range_append (a + 1) m n))

pub upto_more : (n : ℕ) → range_with_len 1 (n + 1) ≡ range_with_len 1 n ++ ((n + 1) ∷ [])
upto_more n = rw (range_append 1 n 1, add_comm 1 n)

-- the same numbers, each 1 greater
pub range_suc : (a n : ℕ) → map suc (range_with_len a n) ≡ range_with_len (a + 1) n
range_suc a zero = refl
range_suc a (suc n) = ap₂ ◌∷◌ (sym (add-one a)) (range_suc (a + 1) n)

-- the members of a range
pub mem_range : {x : ℕ} (a n : ℕ) → x ∈ range_with_len a n → (a ≤ x) × (x < a + n)
mem_range a n m = let (i, h, e) = mem_index 0 m in let k : i < n = omega (arith, length-range_with_len a n) in omega (arith, get_or-range_with_len a n i 0 k)

pub range_mem : {x : ℕ} (a n : ℕ) → a ≤ x → x < a + n → x ∈ range_with_len a n
range_mem {x} a n h k =
    let l : x - a < n = omega arith in
    let e : a + (x - a) ≡ x = omega arith in
    subst (λ (y : ℕ). y ∈ range_with_len a n) (get_or-range_with_len a n (x - a) 0 l ∙ e) (mem_at (range_with_len a n) 0 (omega (arith, length-range_with_len a n)))

-- when two maps are equal; the library has the rest
pub map_eq : {A B : Type 0} (f g : A → B) (xs : List A) → ((x : A) → x ∈ xs → f x ≡ g x) → map f xs ≡ map g xs
map_eq f g [] h = refl
map_eq f g (x ∷ xs) h = ap₂ ◌∷◌ (h x (here refl)) (map_eq f g xs (λ y m. h y (there m)))

-- the list that has f at each number of a range; from 0 on it is the library's `fill_by_all`
pub is_table : {B : Type 0} (f : ℕ → B) (a n : ℕ) (d : B) (l : List B) → length l ≡ n → ((i : ℕ) → i < n → get_or l i d ≡ f (a + i)) → l ≡ map f (range_with_len a n)
is_table f a n d l e h =
    ext_get_or d l (map f (range_with_len a n)) (e ∙ sym (length-map-range_with_len f a n))
    (λ i k. let k' : i < n = omega arith in h i k' ∙ sym (get_or-map-range_with_len f a n i (a + i) d k' refl))

-- a part: n elements from a on
module _ {A : Type 0} where
  pub part_length : (a n : ℕ) (l : List A) → a + n ≤ length l → length (take n (drop a l)) ≡ n
  part_length a n l h = length-take-le n (drop a l) (omega (arith, length-drop a l))

  pub part_at : (a n : ℕ) (l : List A) (i : ℕ) (d : A) → i < n → get_or (take n (drop a l)) i d ≡ get_or l (a + i) d
  part_at a n l i d h = get_or-take n (drop a l) i d h ∙ get_or-drop a l i d

  -- a part of a part
  pub drop_take : (n m : ℕ) (l : List A) → drop n (take m l) ≡ take (m - n) (drop n l)
  drop_take zero m l = rw sub-zero
  drop_take (suc n) zero l = rw zero-sub
  drop_take (suc n) (suc m) [] = rw take-nil
  drop_take (suc n) (suc m) (x ∷ l) = rw suc-sub-suc (drop_take n m l)

  pub part_part : (a n b m : ℕ) (l : List A) → b + m ≤ n → take m (drop b (take n (drop a l))) ≡ take m (drop (a + b) l)
  part_part a n b m l h = let k : m ≤ n - b = omega arith in rw (drop_take, take-take m (n - b), drop-drop)

-- the elements that pass a test
module _ {A : Type 0} (p : A → Bool) where
  pub keep_append : (xs ys : List A) → filter p (xs ++ ys) ≡ filter p xs ++ filter p ys
  keep_append [] ys = refl
  keep_append (x ∷ xs) ys = rw (keep_append xs ys) (by (p x))
    where
      by : (t : Bool) → cond t (x ∷ (filter p xs ++ filter p ys)) (filter p xs ++ filter p ys) ≡ cond t (x ∷ filter p xs) (filter p xs) ++ filter p ys
      by true = refl
      by false = refl

  -- one element more, in front or at the end: it is kept where it passes, and nothing changes where it fails
  pub keep_cons : (x : A) (xs : List A) → p x ≡ true → filter p (x ∷ xs) ≡ x ∷ filter p xs
  keep_cons x xs e = rw e

  pub keep_cons_skip : (x : A) (xs : List A) → p x ≡ false → filter p (x ∷ xs) ≡ filter p xs
  keep_cons_skip x xs e = rw e

  pub keep_snoc : (xs : List A) (x : A) → p x ≡ true → filter p (xs ++ (x ∷ [])) ≡ filter p xs ++ (x ∷ [])
  keep_snoc xs x e = rw (keep_append xs (x ∷ []), e)

  pub keep_snoc_skip : (xs : List A) (x : A) → p x ≡ false → filter p (xs ++ (x ∷ [])) ≡ filter p xs
  keep_snoc_skip xs x e = rw (keep_append xs (x ∷ []), e, append-nil)

  -- which they are
  pub mem_keep : {x : A} (xs : List A) → x ∈ filter p xs → (x ∈ xs) × (p x ≡ true)
  mem_keep [] m = absurd (Memᴰ.not-nil m)
  mem_keep {x} (y ∷ ys) m = by (p y) refl (mem_keep ys) m
    where
      by : (t : Bool) → p y ≡ t → (x ∈ filter p ys → (x ∈ ys) × (p x ≡ true)) → x ∈ cond t (y ∷ filter p ys) (filter p ys) → (x ∈ (y ∷ ys)) × (p x ≡ true)
      by true e h (here q) = (here q, ap p q ∙ e)
      by true e h (there m) = (there (h m).0, (h m).1)
      by false e h m = (there (h m).0, (h m).1)

  pub keep_mem : {x : A} {xs : List A} → x ∈ xs → p x ≡ true → x ∈ filter p xs
  keep_mem {x} {xs = []} m e = absurd (Memᴰ.not-nil m)
  keep_mem {x} {xs = y ∷ ys} (here q) e = rw (ap p (sym q) ∙ e) (here q)
  keep_mem {x} {xs = y ∷ ys} (there m) e = by (p y) (keep_mem m e)
    where
      by : (t : Bool) → x ∈ filter p ys → x ∈ cond t (y ∷ filter p ys) (filter p ys)
      by true m = there m
      by false m = m

-- where none passes, and where all do
pub keep_none : {A : Type 0} (p : A → Bool) (xs : List A) → ((x : A) → x ∈ xs → p x ≡ false) → filter p xs ≡ []
keep_none p [] h = refl
keep_none p (x ∷ xs) h = rw (h x (here refl), keep_none p xs (λ y m. h y (there m)))

pub keep_all : {A : Type 0} (p : A → Bool) (xs : List A) → ((x : A) → x ∈ xs → p x ≡ true) → filter p xs ≡ xs
keep_all p [] h = refl
keep_all p (x ∷ xs) h = rw (h x (here refl), keep_all p xs (λ y m. h y (there m)))

-- where the elements stand in another order, so do those that pass
pub keep_perm : {A : Type 0} (p : A → Bool) {xs ys : List A} → Permᴰ xs ys → Permᴰ (filter p xs) (filter p ys)
keep_perm p Permᴰ.nil = Permᴰ.nil
keep_perm p (Permᴰ.cons {a} {b} {l₁} {l₂} e s) = rw (← e) (by (p a) (keep_perm p s))
  where
    by : (t : Bool) → Permᴰ (filter p l₁) (filter p l₂) → Permᴰ (cond t (a ∷ filter p l₁) (filter p l₁)) (cond t (a ∷ filter p l₂) (filter p l₂))
    by true s = Permᴰ.cons refl s
    by false s = s
keep_perm p (Permᴰ.swap {a} {b} {l = l} e q) = rw (← e, ← q) (by (p a) (p b))
  where
    by : (s t : Bool) → Permᴰ (cond s (a ∷ cond t (b ∷ filter p l) (filter p l)) (cond t (b ∷ filter p l) (filter p l)))
        (cond t (b ∷ cond s (a ∷ filter p l) (filter p l)) (cond s (a ∷ filter p l) (filter p l)))
    by true true = Permᴰ.swap refl refl
    by true false = Permᴰ.refl (a ∷ filter p l)
    by false true = Permᴰ.refl (b ∷ filter p l)
    by false false = Permᴰ.refl (filter p l)
keep_perm p (Permᴰ.trans s t) = Permᴰ.trans (keep_perm p s) (keep_perm p t)

-- those of a mapped list that pass
pub keep_map : {A B : Type 0} (p : B → Bool) (f : A → B) (xs : List A) → filter p (map f xs) ≡ map f (filter (λ x. p (f x)) xs)
keep_map p f [] = refl
keep_map p f (x ∷ xs) = rw (keep_map p f xs) (by (p (f x)))
  where
    by : (t : Bool) → cond t (f x ∷ map f (filter (λ y. p (f y)) xs)) (map f (filter (λ y. p (f y)) xs))
        ≡ map f (cond t (x ∷ filter (λ y. p (f y)) xs) (filter (λ y. p (f y)) xs))
    by true = refl
    by false = refl

-- where the elements from a to b - 1 pass a test and no others do, they are those that pass
pub keep_part : {A : Type 0} (p : A → Bool) (xs : List A) (d : A) (a b : ℕ) → a ≤ b → b ≤ length xs
    → ((i : ℕ) → i < a → p (get_or xs i d) ≡ false)
    → ((i : ℕ) → a ≤ i → i < b → p (get_or xs i d) ≡ true)
    → ((i : ℕ) → b ≤ i → i < length xs → p (get_or xs i d) ≡ false)
    → filter p xs ≡ take (b - a) (drop a xs)
keep_part p [] d a b h k f g e = rw (drop-nil, take-nil)
keep_part p (x ∷ xs) d zero zero h k f g e =
    keep_none p (x ∷ xs) (by_index (λ y. p y ≡ false) (x ∷ xs) d (λ i. e i (omega arith)))
keep_part p (x ∷ xs) d zero (suc b) h k f g e =
    let rest =
    keep_part p xs d 0 b (omega arith) (omega arith) (λ i l. absurd (not-suc-le-zero l))
    (λ i l n. g (suc i) (omega arith) (omega arith))
    (λ i l n. e (suc i) (omega arith) (omega arith)) in
    rw (g 0 (omega arith) (omega arith), sub-zero) (ap (λ (l : List _). x ∷ l) (rw sub-zero at rest))
keep_part p (x ∷ xs) d (suc a) zero h k f g e = absurd (not-suc-le-zero h)
keep_part p (x ∷ xs) d (suc a) (suc b) h k f g e =
    rw (f 0 (omega arith), suc-sub-suc)
    (keep_part p xs d a b (omega arith) (omega arith) (λ i l. f (suc i) (omega arith))
    (λ i l n. g (suc i) (omega arith) (omega arith))
    (λ i l n. e (suc i) (omega arith) (omega arith)))

-- whether any element passes a test: it fails at each member where none does
module _ {A : Type 0} (p : A → Bool) where
  pub any_false : {x : A} {xs : List A} → list_any p xs ≡ false → x ∈ xs → p x ≡ false
  any_false e (here q) = ap p q ∙ (neither _ _ e).0
  any_false e (there {x = y} {xs = ys} m) = any_false (neither (p y) (list_any p ys) e).1 m

  pub none_any : (xs : List A) → ((x : A) → x ∈ xs → p x ≡ false) → list_any p xs ≡ false
  none_any [] h = refl
  none_any (x ∷ xs) h = rw (h x (here refl)) (none_any xs (λ y m. h y (there m)))

  pub some_any : {x : A} {xs : List A} → x ∈ xs → p x ≡ true → list_any p xs ≡ true
  some_any (here e) h = rw (ap p (sym e) ∙ h)
  some_any (there {x = y} m) h = rw (some_any m h) (or-true (p y))

-- two tests that agree on every element
pub any_eq : {A : Type 0} (p q : A → Bool) (xs : List A) → ((x : A) → x ∈ xs → p x ≡ q x) → list_any p xs ≡ list_any q xs
any_eq p q [] h = refl
any_eq p q (x ∷ xs) h = rw (h x (here refl), any_eq p q xs (λ y m. h y (there m)))

-- the search as a loop: no element before i passes
pub record NoneBefore {A : Type 0} (p : A → Bool) (xs : List A) (d : A) (i : ℕ) : Type 0 where
  pub high : i ≤ length xs
  pub fails : (j : ℕ) → j < i → p (get_or xs j d) ≡ false

-- its start, its step, and its end where one passes and where none does
module _ {A : Type 0} (p : A → Bool) (xs : List A) (d : A) where
  pub none_before : NoneBefore p xs d 0
  none_before = record { high = omega arith; fails = below_none _ }

  pub none_more : (i : ℕ) → i < length xs → p (get_or xs i d) ≡ false → NoneBefore p xs d i → NoneBefore p xs d (i + 1)
  none_more i h e n = record { high = omega arith; fails = below_more _ i n.fails e }

  pub any_found : (i : ℕ) → i < length xs → p (get_or xs i d) ≡ true → list_any p xs ≡ true
  any_found i h e = some_any p (mem_at xs d h) e

  pub any_none : (i : ℕ) → length xs ≤ i → NoneBefore p xs d i → list_any p xs ≡ false
  any_none i h n = none_any p xs (by_index (λ x. p x ≡ false) xs d (λ j l. n.fails j (omega arith)))

-- over a mapped list
pub any_map : {A B : Type 0} (p : B → Bool) (f : A → B) (xs : List A) → list_any p (map f xs) ≡ list_any (λ x. p (f x)) xs
any_map p f [] = refl
any_map p f (x ∷ xs) = ap (λ (t : Bool). p (f x) || t) (any_map p f xs)

-- the first that passes a test is one further on behind an element that fails; `position` finds it, or nothing where it is the end
pub first_cons : {A : Type 0} (p : A → Bool) (x : A) (xs : List A) → p x ≡ false → position_or_len p (x ∷ xs) ≡ suc (position_or_len p xs)
first_cons p x xs e = rw e (omega arith)

pub first_or_all : {A : Type 0} (p : A → Bool) (xs : List A) → unwrap_or (position p xs) (length xs) ≡ position_or_len p xs
first_or_all p xs = by (ltb (position_or_len p xs) (length xs)) refl
  where
    by : (t : Bool) → ltb (position_or_len p xs) (length xs) ≡ t → unwrap_or (position p xs) (length xs) ≡ position_or_len p xs
    by true e = rw e
    by false e = rw e (omega (arith, ltb-false _ _ e, prefix_len-le-length (λ x. not (p x)) xs))

-- what every element has, a member has; and back
pub every_mem : {A : Type 0} (P : A → Type 0) (xs : List A) → AllByRecursion P xs → (x : A) → x ∈ xs → P x
every_mem P [] h x i = elim i [ ]
every_mem P (y ∷ ys) h x (here e) = subst P (sym e) h.0
every_mem P (y ∷ ys) h x (there i) = every_mem P ys h.1 x i

pub mem_every : {A : Type 0} (P : A → Type 0) (xs : List A) → ((x : A) → x ∈ xs → P x) → AllByRecursion P xs
mem_every P [] f = tt
mem_every P (x ∷ xs) f = (f x (here refl), mem_every P xs (λ y i. f y (there i)))

-- an element at an index, the first ones, and those after them
pub every_at : {A : Type 0} (P : A → Type 0) (xs : List A) (d : A) → P d → AllByRecursion P xs → (i : ℕ) → P (get_or xs i d)
every_at P xs d p h = at_any P xs d p (λ i l. every_mem P xs h (get_or xs i d) (mem_at xs d l))

pub every_take : {A : Type 0} (P : A → Type 0) (n : ℕ) (xs : List A) → AllByRecursion P xs → AllByRecursion P (take n xs)
every_take P zero xs h = tt
every_take P (suc n) [] h = tt
every_take P (suc n) (x ∷ xs) h = (h.0, every_take P n xs h.1)

pub every_drop : {A : Type 0} (P : A → Type 0) (n : ℕ) (xs : List A) → AllByRecursion P xs → AllByRecursion P (drop n xs)
every_drop P zero xs h = h
every_drop P (suc n) [] h = tt
every_drop P (suc n) (x ∷ xs) h = every_drop P n xs h.1

pub every_map : {A B : Type 0} (P : B → Type 0) (f : A → B) (xs : List A) → ((x : A) → x ∈ xs → P (f x)) → AllByRecursion P (map f xs)
every_map P f [] h = tt
every_map P f (x ∷ xs) h = (h x (here refl), every_map P f xs (λ y i. h y (there i)))

pub every_weaken : {A : Type 0} (P Q : A → Type 0) → ((x : A) → P x → Q x) → (xs : List A) → AllByRecursion P xs → AllByRecursion Q xs
every_weaken P Q f [] h = tt
every_weaken P Q f (x ∷ xs) h = (f x h.0, every_weaken P Q f xs h.1)

pub every_append : {A : Type 0} (P : A → Type 0) (xs ys : List A) → AllByRecursion P xs → AllByRecursion P ys → AllByRecursion P (xs ++ ys)
every_append P [] ys h k = k
every_append P (x ∷ xs) ys h k = (h.0, every_append P xs ys h.1 k)

pub every_flat_map : {A B : Type 0} (P : B → Type 0) (f : A → List B) (xs : List A) → ((x : A) → x ∈ xs → AllByRecursion P (f x)) → AllByRecursion P (flat_map f xs)
unfolding flat_map
every_flat_map P f [] h = tt
every_flat_map P f (x ∷ xs) h = every_append P (f x) (flat_map f xs) (h x (here refl)) (every_flat_map P f xs (λ y i. h y (there i)))
