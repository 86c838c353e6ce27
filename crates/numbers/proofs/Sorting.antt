-- Sorting downwards: the sorted list is a permutation, falls, and is the same for every order of the numbers; and the sum of the two largest
-- by one number more. Two insertions may be exchanged, and the rest follows.
use mathlib.Core.Path.{◌≡◌, refl, sym, ap, ap₂, ◌∙◌}
use mathlib.Core.Bool.{Bool, true, false, cond}
use mathlib.Core.List.Memᴰ.{head as here}
use mathlib.Core.List.Memᴰ.{tail as there}
use mathlib.Core.List.{List, [], ◌∷◌, map}
use mathlib.Core.List.Permᴰ
use mathlib.Core.List.{Permᴰ}
use Prim.Native.Nat.{ℕ, zero, suc, ◌+◌, ◌≤◌, ◌<◌, max, min}
use native.Mathlib.Omega.{arith}
use lib.Dec.{leb}
use lib.ListN.{get_or, take}
use borrow.Author.Tests.{leb-true, leb-false, le-leb, lt-leb}
use Rattle.numbers.specs.Lists.{insert, descending}
use Rattle.numbers.specs.Sums.{Σ, greatest}
use Rattle.numbers.proofs.Lists.{◌∈◌, by_steps}
use Rattle.numbers.proofs.Sums.{greatest_map, greatest_mono}

-- x put into a list
insert_nil : (x : ℕ) → insert x [] ≡ x ∷ []
unfolding insert
insert_nil x = refl

insert_first : (x y : ℕ) (ys : List ℕ) → y ≤ x → insert x (y ∷ ys) ≡ x ∷ y ∷ ys
unfolding insert
insert_first x y ys h = rw (le-leb y x h)

insert_later : (x y : ℕ) (ys : List ℕ) → x < y → insert x (y ∷ ys) ≡ y ∷ insert x ys
unfolding insert
insert_later x y ys h = rw (lt-leb y x h)

-- two insertions may be exchanged
insert_under : (x y : ℕ) (l : List ℕ) → y ≤ x → insert y l ≡ y ∷ l → insert y (x ∷ l) ≡ x ∷ y ∷ l
insert_under x y l h e = by (leb x y) refl
  where
    by : (t : Bool) → leb x y ≡ t → insert y (x ∷ l) ≡ x ∷ y ∷ l
    by true q = let same : x ≡ y = omega (arith, leb-true x y q) in insert_first y x l (leb-true x y q) ∙ cc
    by false q = insert_later y x l (leb-false x y q) ∙ ap (λ (r : List ℕ). x ∷ r) e

insert_swap_le : (x y : ℕ) (l : List ℕ) → y ≤ x → insert x (insert y l) ≡ insert y (insert x l)
insert_swap_le x y [] h = rw (insert_nil y, insert_nil x, insert_first x y [] h, insert_under x y [] h (insert_nil y))
insert_swap_le x y (z ∷ zs) h = by (leb z y) (leb z x) refl refl (insert_swap_le x y zs h)
  where
    by : (s t : Bool) → leb z y ≡ s → leb z x ≡ t → insert x (insert y zs) ≡ insert y (insert x zs) → insert x (insert y (z ∷ zs)) ≡ insert y (insert x (z ∷ zs))
    by true t p q ih =
        let k : z ≤ y = leb-true z y p in
        let g : z ≤ x = omega arith in
        rw (insert_first y z zs k, insert_first x z zs g, insert_first x y (z ∷ zs) h, insert_under x y (z ∷ zs) h (insert_first y z zs k))
    by false true p q ih =
        let k : y < z = leb-false z y p in
        let g : z ≤ x = leb-true z x q in
        let m : y < x = omega arith in
        rw (insert_later y z zs k, insert_first x z zs g, insert_first x z (insert y zs) g, insert_later y x (z ∷ zs) m, insert_later y z zs k)
    by false false p q ih =
        let k : y < z = leb-false z y p in
        let g : x < z = leb-false z x q in
        rw (insert_later y z zs k, insert_later x z zs g, insert_later x z (insert y zs) g, insert_later y z (insert x zs) k, ih)

insert_swap : (x y : ℕ) (l : List ℕ) → insert x (insert y l) ≡ insert y (insert x l)
insert_swap x y l = by (leb y x) refl
  where
    by : (t : Bool) → leb y x ≡ t → insert x (insert y l) ≡ insert y (insert x l)
    by true q = insert_swap_le x y l (leb-true y x q)
    by false q = sym (insert_swap_le y x l (omega (arith, leb-false y x q)))

-- a permutation does not change the sorted list, and the sorted list is one
pub descending_perm : {xs ys : List ℕ} → Permᴰ xs ys → descending xs ≡ descending ys
unfolding descending
descending_perm Permᴰ.nil = refl
descending_perm (Permᴰ.cons e p) = ap₂ insert e (descending_perm p)
descending_perm (Permᴰ.swap {a} {b} {l} e q) = insert_swap a b (descending l) ∙ ap₂ (λ (u v : ℕ). insert u (insert v (descending l))) q e
descending_perm (Permᴰ.trans p q) = descending_perm p ∙ descending_perm q

insert_is : (x : ℕ) (ys : List ℕ) → Permᴰ (insert x ys) (x ∷ ys)
unfolding insert
insert_is x [] = Permᴰ.refl (x ∷ [])
insert_is x (y ∷ ys) = by (leb y x) (insert_is x ys)
  where
    by : (t : Bool) → Permᴰ (insert x ys) (x ∷ ys) → Permᴰ (cond t (x ∷ y ∷ ys) (y ∷ insert x ys)) (x ∷ y ∷ ys)
    by true p = Permᴰ.refl (x ∷ y ∷ ys)
    by false p = Permᴰ.trans (Permᴰ.cons refl p) (Permᴰ.swap refl refl)

pub descending_is : (xs : List ℕ) → Permᴰ (descending xs) xs
unfolding descending
descending_is [] = Permᴰ.nil
descending_is (x ∷ xs) = Permᴰ.trans (insert_is x (descending xs)) (Permᴰ.cons refl (descending_is xs))

-- the sorted list falls; past its end stands 0
insert_head : (x : ℕ) (l : List ℕ) → get_or (insert x l) 0 0 ≡ max x (get_or l 0 0)
unfolding insert
insert_head x [] = omega arith
insert_head x (y ∷ ys) = by (leb y x) refl
  where
    by : (t : Bool) → leb y x ≡ t → get_or (cond t (x ∷ y ∷ ys) (y ∷ insert x ys)) 0 0 ≡ max x y
    by true q = omega (arith, leb-true y x q)
    by false q = omega (arith, leb-false y x q)

insert_falls : (x : ℕ) (l : List ℕ) → ((i : ℕ) → get_or l (suc i) 0 ≤ get_or l i 0) → (i : ℕ) → get_or (insert x l) (suc i) 0 ≤ get_or (insert x l) i 0
unfolding insert
insert_falls x [] h zero = omega arith
insert_falls x [] h (suc i) = omega arith
insert_falls x (y ∷ ys) h i = by (leb y x) refl i (insert_falls x ys (λ j. h (suc j)))
  where
    by : (t : Bool) → leb y x ≡ t → (i : ℕ) → ((j : ℕ) → get_or (insert x ys) (suc j) 0 ≤ get_or (insert x ys) j 0)
        → get_or (cond t (x ∷ y ∷ ys) (y ∷ insert x ys)) (suc i) 0 ≤ get_or (cond t (x ∷ y ∷ ys) (y ∷ insert x ys)) i 0
    by true q zero f = leb-true y x q
    by true q (suc i) f = h i
    by false q zero f = omega (arith, leb-false y x q, insert_head x ys, h 0)
    by false q (suc i) f = f i

next : (xs : List ℕ) (i : ℕ) → get_or (descending xs) (suc i) 0 ≤ get_or (descending xs) i 0
unfolding descending
next [] i = omega arith
next (x ∷ xs) i = insert_falls x (descending xs) (λ j. next xs j) i

descending_falls : (xs : List ℕ) (i j : ℕ) → i ≤ j → get_or (descending xs) j 0 ≤ get_or (descending xs) i 0
descending_falls xs i j h = by_steps (λ k. get_or (descending xs) k 0 ≤ get_or (descending xs) i 0) i j h (omega arith) (λ k l m f. omega (arith, next xs k))

-- the greatest and the next after it, one number more
head_is : (xs : List ℕ) → greatest xs (λ x. x) ≡ get_or (descending xs) 0 0
unfolding greatest descending
head_is [] = refl
head_is (x ∷ xs) = omega (arith, head_is xs, insert_head x (descending xs))

insert_next : (x : ℕ) (l : List ℕ) → get_or l 1 0 ≤ get_or l 0 0 → get_or (insert x l) 1 0 ≡ max (min x (get_or l 0 0)) (get_or l 1 0)
unfolding insert
insert_next x [] h = omega arith
insert_next x (y ∷ ys) h = by (leb y x) refl
  where
    by : (t : Bool) → leb y x ≡ t → get_or (cond t (x ∷ y ∷ ys) (y ∷ insert x ys)) 1 0 ≡ max (min x y) (get_or ys 0 0)
    by true q = omega (arith, leb-true y x q)
    by false q = omega (arith, leb-false y x q, insert_head x ys)

front : (l : List ℕ) → Σ (take 2 l) (λ x. x) ≡ get_or l 0 0 + get_or l 1 0
unfolding Σ
front [] = omega arith
front (x ∷ []) = omega arith
front (x ∷ y ∷ l) = omega arith

-- their sum: with the first number and the greatest of the others, or without it
pub two_largest : (x : ℕ) (xs : List ℕ) → Σ (take 2 (descending (x ∷ xs))) (λ y. y) ≡ max (x + greatest xs (λ y. y)) (Σ (take 2 (descending xs)) (λ y. y))
unfolding descending
two_largest x xs =
    let l = descending xs in
    let f : get_or l 1 0 ≤ get_or l 0 0 = descending_falls xs 0 1 (omega arith) in
    omega (arith, front (insert x l), front l, head_is xs, insert_head x l, insert_next x l f)

-- it is at least the greatest, and grows with the numbers
pub greatest_two : (xs : List ℕ) → greatest xs (λ x. x) ≤ Σ (take 2 (descending xs)) (λ x. x)
unfolding greatest Σ descending
greatest_two [] = omega arith
greatest_two (x ∷ xs) = omega (arith, two_largest x xs, greatest_two xs)

pub two_mono : {A : Type 0} (xs : List A) (f g : A → ℕ) → ((x : A) → x ∈ xs → f x ≤ g x)
    → Σ (take 2 (descending (map f xs))) (λ y. y) ≤ Σ (take 2 (descending (map g xs))) (λ y. y)
two_mono [] f g h = omega arith
two_mono (x ∷ xs) f g h =
    omega (
      arith,
      two_largest (f x) (map f xs),
      two_largest (g x) (map g xs),
      h x (here refl),
      greatest_map f xs (λ y. y),
      greatest_map g xs (λ y. y),
      greatest_mono xs f g (λ y m. h y (there m)),
      two_mono xs f g (λ y m. h y (there m)),
    )
