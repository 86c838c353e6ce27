-- Sums and greatest figures over a list: each law by induction on the list, its arithmetic by `omega`.
-- What is asked of each element is asked of the members alone, as in `Lists`.
use mathlib.Core.Path.{◌≡◌, refl, sym, ap, ap₂, ◌∙◌}
use mathlib.Core.Bool.{Bool, true, false, not, cond, ◌||◌}
use mathlib.Core.List.Memᴰ.{head as here}
use mathlib.Core.List.Memᴰ.{tail as there}
use mathlib.Core.List.{List, [], ◌∷◌, ◌++◌, map, Permᴰ}
use Prim.Native.Nat.{ℕ, zero, suc, ◌+◌, ◌*◌, ◌≤◌, ◌<◌, max}
use native.Mathlib.Omega.{arith}
use native.Mathlib.Numerals.{add-one}
use lib.Dec.{eqb}
use lib.IntN.{ℤ, pos, nat_abs, ◌+ℤ◌, +ℤ_idl, +ℤ_idr, +ℤ_assoc, +ℤ_comm}
use lib.Signed.{◌≤ℤ◌}
use lib.ListN.{length, get_or, take, drop, take-append-drop}
use lib.Seq.{take-suc}
use borrow.Author.Tests.{eqb-true, ne_eqb}
use Rattle.numbers.specs.Signed.{◌⁺}
use Rattle.std.specs.List.{filter, range_with_len}
use Rattle.numbers.specs.Sums.{Σ, Σℤ, greatest}
use Rattle.numbers.proofs.Signed.{signed, add, ⁺-add, abs_add}
use Rattle.numbers.proofs.Lists.{◌∈◌, mem_range}

-- ---- sums

-- of two figures, of a multiple, of a constant
pub Σ-add : {A : Type 0} (xs : List A) (f g : A → ℕ) → Σ xs (λ x. f x + g x) ≡ Σ xs f + Σ xs g
unfolding Σ
Σ-add [] f g = refl
Σ-add (x ∷ xs) f g = omega (arith, Σ-add xs f g)

pub Σ-scale : {A : Type 0} (xs : List A) (k : ℕ) (f : A → ℕ) → Σ xs (λ x. k * f x) ≡ k * Σ xs f
unfolding Σ
Σ-scale [] k f = omega arith
Σ-scale (x ∷ xs) k f = omega (arith, Σ-scale xs k f)

pub Σ-const : {A : Type 0} (xs : List A) (k : ℕ) → Σ xs (λ x. k) ≡ length xs * k
unfolding Σ
Σ-const [] k = omega arith
Σ-const (x ∷ xs) k = omega (arith, Σ-const xs k)

-- element by element: growing, equal, zero, at most a bound; and no figure is above the sum
pub Σ-mono : {A : Type 0} (xs : List A) (f g : A → ℕ) → ((x : A) → x ∈ xs → f x ≤ g x) → Σ xs f ≤ Σ xs g
unfolding Σ
Σ-mono [] f g h = omega arith
Σ-mono (x ∷ xs) f g h = omega (arith, h x (here refl), Σ-mono xs f g (λ y m. h y (there m)))

pub Σ-eq : {A : Type 0} (xs : List A) (f g : A → ℕ) → ((x : A) → x ∈ xs → f x ≡ g x) → Σ xs f ≡ Σ xs g
unfolding Σ
Σ-eq [] f g h = refl
Σ-eq (x ∷ xs) f g h = ap₂ ◌+◌ (h x (here refl)) (Σ-eq xs f g (λ y m. h y (there m)))

pub Σ-zero : {A : Type 0} (xs : List A) (f : A → ℕ) → ((x : A) → x ∈ xs → f x ≡ 0) → Σ xs f ≡ 0
Σ-zero xs f h = omega (arith, Σ-eq xs f (λ x. 0) h, Σ-const xs 0)

pub Σ-bound : {A : Type 0} (xs : List A) (f : A → ℕ) (c : ℕ) → ((x : A) → x ∈ xs → f x ≤ c) → Σ xs f ≤ length xs * c
Σ-bound xs f c h = omega (arith, Σ-mono xs f (λ x. c) h, Σ-const xs c)

pub Σ-least : {A : Type 0} (xs : List A) (f : A → ℕ) (c : ℕ) → ((x : A) → x ∈ xs → c ≤ f x) → length xs * c ≤ Σ xs f
Σ-least xs f c h = omega (arith, Σ-mono xs (λ x. c) f h, Σ-const xs c)

pub Σ-elem : {A : Type 0} {x : A} {xs : List A} (f : A → ℕ) → x ∈ xs → f x ≤ Σ xs f
unfolding Σ
Σ-elem f (here e) = omega (arith, ap f e)
Σ-elem f (there m) = omega (arith, Σ-elem f m)

-- over two lists in one, over one element more, over a mapped list. `Σ-more` is a step of a loop over a list, and `Σ-snoc` with `upto_more`
-- in front is one of a loop over numbers
Σ-append : {A : Type 0} (xs ys : List A) (f : A → ℕ) → Σ (xs ++ ys) f ≡ Σ xs f + Σ ys f
unfolding Σ
Σ-append [] ys f = omega arith
Σ-append (x ∷ xs) ys f = omega (arith, Σ-append xs ys f)

pub Σ-snoc : {A : Type 0} (xs : List A) (x : A) (f : A → ℕ) → Σ (xs ++ (x ∷ [])) f ≡ Σ xs f + f x
unfolding Σ
Σ-snoc xs x f = omega (arith, Σ-append xs (x ∷ []) f)

pub Σ-more : {A : Type 0} (xs : List A) (i : ℕ) (d : A) (f : A → ℕ) (s v : ℕ) → i < length xs → s ≡ Σ (take i xs) f → v ≡ f (get_or xs i d) → s + v ≡ Σ (take (i + 1) xs) f
Σ-more xs i d f s v h e k = rw (add-one, take-suc xs i d h, Σ-snoc, e, k)

pub Σ-map : {A B : Type 0} (g : A → B) (xs : List A) (f : B → ℕ) → Σ (map g xs) f ≡ Σ xs (λ x. f (g x))
unfolding Σ
Σ-map g [] f = refl
Σ-map g (x ∷ xs) f = ap (λ (n : ℕ). f (g x) + n) (Σ-map g xs f)

-- two sums may be exchanged, and a permutation changes nothing
pub Σ-swap : {A B : Type 0} (xs : List A) (ys : List B) (f : A → B → ℕ) → Σ xs (λ x. Σ ys (f x)) ≡ Σ ys (λ y. Σ xs (λ x. f x y))
unfolding Σ
Σ-swap [] ys f = sym (Σ-zero ys (λ y. 0) (λ y m. refl))
Σ-swap (x ∷ xs) ys f = omega (arith, Σ-swap xs ys f, Σ-add ys (f x) (λ y. Σ xs (λ x'. f x' y)))

pub Σ-perm : {A : Type 0} {xs ys : List A} → Permᴰ xs ys → (f : A → ℕ) → Σ xs f ≡ Σ ys f
unfolding Σ
Σ-perm Permᴰ.nil f = refl
Σ-perm (Permᴰ.cons e p) f = ap₂ ◌+◌ (ap f e) (Σ-perm p f)
Σ-perm (Permᴰ.swap e q) f = omega (arith, ap f e, ap f q)
Σ-perm (Permᴰ.trans p q) f = Σ-perm p f ∙ Σ-perm q f

-- over the elements that pass a test and those that fail it: together the whole, so that over a part it is no greater
Σ-split : {A : Type 0} (p : A → Bool) (xs : List A) (f : A → ℕ) → Σ (filter p xs) f + Σ (filter (λ x. not (p x)) xs) f ≡ Σ xs f
unfolding Σ
Σ-split p [] f = refl
Σ-split p (x ∷ xs) f = by (p x) (Σ-split p xs f)
  where
    by : (t : Bool) → Σ (filter p xs) f + Σ (filter (λ y. not (p y)) xs) f ≡ Σ xs f
        → Σ (cond t (x ∷ filter p xs) (filter p xs)) f + Σ (cond (not t) (x ∷ filter (λ y. not (p y)) xs) (filter (λ y. not (p y)) xs)) f ≡ f x + Σ xs f
    by true e = omega arith
    by false e = omega arith

pub Σ-keep_le : {A : Type 0} (p : A → Bool) (xs : List A) (f : A → ℕ) → Σ (filter p xs) f ≤ Σ xs f
Σ-keep_le p xs f = omega (arith, Σ-split p xs f)

pub Σ-take_le : {A : Type 0} (n : ℕ) (xs : List A) (f : A → ℕ) → Σ (take n xs) f ≤ Σ xs f
Σ-take_le n xs f = omega (arith, ap (λ (l : List _). Σ l f) (take-append-drop n xs), Σ-append (take n xs) (drop n xs) f)

-- what fails a test adds 0; and over those that pass one of two tests the sum is at most that for each
Σ-keep : {A : Type 0} (p : A → Bool) (xs : List A) (f : A → ℕ) → Σ (filter p xs) f ≡ Σ xs (λ x. cond (p x) (f x) 0)
unfolding Σ
Σ-keep p [] f = refl
Σ-keep p (x ∷ xs) f = by (p x) (Σ-keep p xs f)
  where
    by : (t : Bool) → Σ (filter p xs) f ≡ Σ xs (λ y. cond (p y) (f y) 0) → Σ (cond t (x ∷ filter p xs) (filter p xs)) f ≡ cond t (f x) 0 + Σ xs (λ y. cond (p y) (f y) 0)
    by true e = omega arith
    by false e = omega arith

-- where only that is 0 it may be left out
pub Σ-left_out : {A : Type 0} (p : A → Bool) (xs : List A) (f : A → ℕ) → ((x : A) → x ∈ xs → p x ≡ false → f x ≡ 0) → Σ xs f ≡ Σ (filter p xs) f
Σ-left_out p xs f none = Σ-eq xs f _ (λ x i. by (p x) refl (none x i)) ∙ sym (Σ-keep p xs f)
  where
    by : {x : _} (t : Bool) → p x ≡ t → (p x ≡ false → f x ≡ 0) → f x ≡ cond t (f x) 0
    by true e h = refl
    by false e h = h e

pub Σ-or : {A : Type 0} (p q : A → Bool) (xs : List A) (f : A → ℕ) → Σ (filter (λ x. p x || q x) xs) f ≤ Σ (filter p xs) f + Σ (filter q xs) f
Σ-or p q xs f = rw (Σ-keep _ xs f, Σ-keep p xs f, Σ-keep q xs f, ← Σ-add) (Σ-mono xs _ _ (λ x m. by (p x) (q x) (f x)))
  where
    by : (s t : Bool) (c : ℕ) → cond (s || t) c 0 ≤ cond s c 0 + cond t c 0
    by true t c = omega arith
    by false t c = omega arith

-- the elements by their class, a number: a sum over classes is at most the sum over all
one_class : (y c a n : ℕ) → Σ (range_with_len a n) (λ i. cond (eqb y i) c 0) ≤ c
unfolding Σ
one_class y c a zero = omega arith
one_class y c a (suc n) = by (eqb y a) refl (one_class y c (a + 1) n)
  where
    by : (t : Bool) → eqb y a ≡ t → Σ (range_with_len (a + 1) n) (λ i. cond (eqb y i) c 0) ≤ c → cond t c 0 + Σ (range_with_len (a + 1) n) (λ i. cond (eqb y i) c 0) ≤ c
    by true q h =
        let past : (i : ℕ) → i ∈ range_with_len (a + 1) n → cond (eqb y i) c 0 ≡ 0 = λ i m. rw (ne_eqb y i (λ e. omega (arith, eqb-true y a q, mem_range (a + 1) n m))) in
        omega (arith, Σ-zero (range_with_len (a + 1) n) _ past)
    by false q h = omega arith

pub Σ-classes : {A : Type 0} (g : A → ℕ) (a n : ℕ) (xs : List A) (f : A → ℕ) → Σ (range_with_len a n) (λ i. Σ (filter (λ x. eqb (g x) i) xs) f) ≤ Σ xs f
Σ-classes g a n xs f = simp Σ-keep (rw (Σ-swap (range_with_len a n) xs (λ i x. cond (eqb (g x) i) (f x) 0)) (Σ-mono xs _ f (λ x m. one_class (g x) (f x) a n)))

-- ---- sums of signed numbers

-- it grows with each figure
pub Σℤ-mono : {A : Type 0} (xs : List A) (f g : A → ℤ) → ((x : A) → x ∈ xs → f x ≤ℤ g x) → Σℤ xs f ≤ℤ Σℤ xs g
unfolding Σℤ
Σℤ-mono [] f g h = omega (arith, signed)
Σℤ-mono (x ∷ xs) f g h =
    let a = h x (here refl) in
    let b = Σℤ-mono xs f g (λ y m. h y (there m)) in
    omega (arith, signed, add (f x) (Σℤ xs f), add (g x) (Σℤ xs g))

-- over two lists in one, over one element more
Σℤ-append : {A : Type 0} (xs ys : List A) (f : A → ℤ) → Σℤ (xs ++ ys) f ≡ Σℤ xs f +ℤ Σℤ ys f
unfolding Σℤ
Σℤ-append [] ys f = sym (+ℤ_idl (Σℤ ys f))
Σℤ-append (x ∷ xs) ys f = rw (Σℤ-append xs ys f) (sym (+ℤ_assoc (f x) (Σℤ xs f) (Σℤ ys f)))

pub Σℤ-snoc : {A : Type 0} (xs : List A) (x : A) (f : A → ℤ) → Σℤ (xs ++ (x ∷ [])) f ≡ Σℤ xs f +ℤ f x
unfolding Σℤ
Σℤ-snoc xs x f = Σℤ-append xs (x ∷ []) f ∙ ap (λ (z : ℤ). Σℤ xs f +ℤ z) (+ℤ_idr (f x))

pub Σℤ-map : {A B : Type 0} (g : A → B) (xs : List A) (f : B → ℤ) → Σℤ (map g xs) f ≡ Σℤ xs (λ x. f (g x))
unfolding Σℤ
Σℤ-map g [] f = refl
Σℤ-map g (x ∷ xs) f = ap (λ (z : ℤ). f (g x) +ℤ z) (Σℤ-map g xs f)

-- where what fails a test is 0 it may be left out
pub Σℤ-left_out : {A : Type 0} (p : A → Bool) (xs : List A) (f : A → ℤ) → ((x : A) → x ∈ xs → p x ≡ false → f x ≡ pos 0) → Σℤ xs f ≡ Σℤ (filter p xs) f
unfolding Σℤ
Σℤ-left_out p [] f none = refl
Σℤ-left_out p (x ∷ xs) f none = by (p x) (none x (here refl)) refl (Σℤ-left_out p xs f (λ y m. none y (there m)))
  where
    by : (t : Bool) → (p x ≡ false → f x ≡ pos 0) → p x ≡ t → Σℤ xs f ≡ Σℤ (filter p xs) f → f x +ℤ Σℤ xs f ≡ Σℤ (cond t (x ∷ filter p xs) (filter p xs)) f
    by true h e s = ap (λ (z : ℤ). f x +ℤ z) s
    by false h e s = ap (λ (z : ℤ). z +ℤ Σℤ xs f) (h e) ∙ +ℤ_idl (Σℤ xs f) ∙ s

-- a permutation changes nothing
+ℤ_swap : (x y s : ℤ) → x +ℤ (y +ℤ s) ≡ y +ℤ (x +ℤ s)
+ℤ_swap x y s = sym (+ℤ_assoc x y s) ∙ ap (λ (z : ℤ). z +ℤ s) (+ℤ_comm x y) ∙ +ℤ_assoc y x s

pub Σℤ-perm : {A : Type 0} {xs ys : List A} → Permᴰ xs ys → (f : A → ℤ) → Σℤ xs f ≡ Σℤ ys f
unfolding Σℤ
Σℤ-perm Permᴰ.nil f = refl
Σℤ-perm (Permᴰ.cons e p) f = ap₂ ◌+ℤ◌ (ap f e) (Σℤ-perm p f)
Σℤ-perm (Permᴰ.swap {a} {b} {l = l} e q) f = +ℤ_swap (f a) (f b) (Σℤ l f) ∙ ap₂ (λ (u v : ℤ). u +ℤ (v +ℤ Σℤ l f)) (ap f q) (ap f e)
Σℤ-perm (Permᴰ.trans p q) f = Σℤ-perm p f ∙ Σℤ-perm q f

-- the positive part and the absolute value of a sum are at most those of its parts
pub Σℤ-⁺ : {A : Type 0} (xs : List A) (f : A → ℤ) → Σℤ xs f ⁺ ≤ Σ xs (λ x. f x ⁺)
unfolding Σℤ Σ
Σℤ-⁺ [] f = omega arith
Σℤ-⁺ (x ∷ xs) f = omega (arith, Σℤ-⁺ xs f, ⁺-add (f x) (Σℤ xs f))

pub Σℤ-abs : {A : Type 0} (xs : List A) (f : A → ℤ) → nat_abs (Σℤ xs f) ≤ Σ xs (λ x. nat_abs (f x))
unfolding Σℤ Σ
Σℤ-abs [] f = omega arith
Σℤ-abs (x ∷ xs) f = omega (arith, Σℤ-abs xs f, abs_add (f x) (Σℤ xs f))

-- ---- the greatest

-- it is the least number that no figure is above
pub greatest_le : {A : Type 0} (xs : List A) (f : A → ℕ) (c : ℕ) → ((x : A) → x ∈ xs → f x ≤ c) → greatest xs f ≤ c
unfolding greatest
greatest_le [] f c h = omega arith
greatest_le (x ∷ xs) f c h = omega (arith, h x (here refl), greatest_le xs f c (λ y m. h y (there m)))

pub greatest_elem : {A : Type 0} {x : A} {xs : List A} (f : A → ℕ) → x ∈ xs → f x ≤ greatest xs f
unfolding greatest
greatest_elem f (here e) = omega (arith, ap f e)
greatest_elem f (there m) = omega (arith, greatest_elem f m)

-- element by element: growing, equal
pub greatest_mono : {A : Type 0} (xs : List A) (f g : A → ℕ) → ((x : A) → x ∈ xs → f x ≤ g x) → greatest xs f ≤ greatest xs g
greatest_mono xs f g h = greatest_le xs f (greatest xs g) (λ x m. omega (arith, h x m, greatest_elem g m))

pub greatest_eq : {A : Type 0} (xs : List A) (f g : A → ℕ) → ((x : A) → x ∈ xs → f x ≡ g x) → greatest xs f ≡ greatest xs g
unfolding greatest
greatest_eq [] f g h = refl
greatest_eq (x ∷ xs) f g h = ap₂ max (h x (here refl)) (greatest_eq xs f g (λ y m. h y (there m)))

-- over two lists in one, over one element more, over a mapped list. `greatest_more` is a step of a loop, as `Σ-more` is
pub greatest_append : {A : Type 0} (xs ys : List A) (f : A → ℕ) → greatest (xs ++ ys) f ≡ max (greatest xs f) (greatest ys f)
unfolding greatest
greatest_append [] ys f = omega arith
greatest_append (x ∷ xs) ys f = omega (arith, greatest_append xs ys f)

pub greatest_snoc : {A : Type 0} (xs : List A) (x : A) (f : A → ℕ) → greatest (xs ++ (x ∷ [])) f ≡ max (greatest xs f) (f x)
unfolding greatest
greatest_snoc xs x f = omega (arith, greatest_append xs (x ∷ []) f)

pub greatest_more : {A : Type 0} (xs : List A) (i : ℕ) (d : A) (f : A → ℕ) (s v : ℕ) → i < length xs → s ≡ greatest (take i xs) f → v ≡ f (get_or xs i d) → max s v ≡ greatest (take (i + 1) xs) f
greatest_more xs i d f s v h e k = rw (add-one, take-suc xs i d h, greatest_snoc, e, k)

pub greatest_map : {A B : Type 0} (g : A → B) (xs : List A) (f : B → ℕ) → greatest (map g xs) f ≡ greatest xs (λ x. f (g x))
unfolding greatest
greatest_map g [] f = refl
greatest_map g (x ∷ xs) f = ap (λ (n : ℕ). max (f (g x)) n) (greatest_map g xs f)
