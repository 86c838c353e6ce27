-- Rows one after another, as `flat_map` gives them: where each row and each of its elements stands when all rows have one width, and how a
-- buffer comes to hold them, row by row.
use mathlib.Core.Path.{◌≡◌, refl, sym, ap, ◌∙◌}
use mathlib.Core.List.Memᴰ.{head as here}
use mathlib.Core.List.Memᴰ.{tail as there}
use mathlib.Core.List.{List, [], ◌∷◌, ◌++◌, map, flat_map, append_assoc, append-nil}
use Prim.Native.Nat.{ℕ, zero, suc, ◌+◌, ◌*◌, ◌≤◌, ◌<◌}
use native.Mathlib.Omega.{arith}
use native.Mathlib.Numerals.{add-one}
use native.Mathlib.Nat.{mul-zero, mul-suc}
use lib.ListN.{length, get_or, take, drop, length-append, drop_of_length-le, get_or-append}
use Rattle.numbers.proofs.Lists.{◌∈◌, mem_at}
use lib.Seq.{drop-cons, drop-drop, drop-nil, take-suc, take_at, drop_at, drop-append-add, get_or-drop, length-take-le}

-- over two lists in one, over a mapped list
pub flat_map_append : {A B : Type 0} (f : A → List B) (xs ys : List A) → flat_map f (xs ++ ys) ≡ flat_map f xs ++ flat_map f ys
unfolding flat_map
flat_map_append f [] ys = refl
flat_map_append f (x ∷ xs) ys = rw (flat_map_append f xs ys, append_assoc)

pub flat_map_map : {A B C : Type 0} (g : A → B) (xs : List A) (f : B → List C) → flat_map f (map g xs) ≡ flat_map (λ x. f (g x)) xs
unfolding flat_map
flat_map_map g [] f = refl
flat_map_map g (x ∷ xs) f = rw (flat_map_map g xs f)

-- rows of one width w
module _ {A B : Type 0} (w : ℕ) (f : A → List B) where
  pub rows_length : (xs : List A) → ((x : A) → x ∈ xs → length (f x) ≡ w) → length (flat_map f xs) ≡ w * length xs
  unfolding flat_map
  rows_length [] wide = sym (mul-zero w)
  rows_length (x ∷ xs) wide = length-append (f x) (flat_map f xs) ∙ omega (arith, rows_length xs (λ y m. wide y (there m)), wide x (here refl))

  rows_drop : (xs : List A) → ((x : A) → x ∈ xs → length (f x) ≡ w) → (i : ℕ) → drop (w * i) (flat_map f xs) ≡ flat_map f (drop i xs)
  unfolding flat_map
  rows_drop xs wide zero = rw mul-zero
  rows_drop [] wide (suc i) = drop-nil (w * suc i)
  rows_drop (x ∷ xs) wide (suc i) =
      let e : w * suc i ≡ length (f x) + w * i = omega (arith, wide x (here refl)) in
      rw (e, drop-append-add, rows_drop xs (λ y m. wide y (there m)) i)

  module _ (xs : List A) (wide : (x : A) → x ∈ xs → length (f x) ≡ w) where
    pub rows_at : (i j : ℕ) (d : A) (e : B) → i < length xs → j < w → get_or (flat_map f xs) (w * i + j) e ≡ get_or (f (get_or xs i d)) j e
    unfolding flat_map
    rows_at i j d e h k =
        rw (← get_or-drop, rows_drop xs wide, drop-cons xs i d)
        (get_or-append (f (get_or xs i d)) (flat_map f (drop (suc i) xs)) e j (omega (arith, wide (get_or xs i d) (mem_at xs d h))))

    pub rows_part : (i : ℕ) (d : A) → i < length xs → take w (drop (w * i) (flat_map f xs)) ≡ f (get_or xs i d)
    unfolding flat_map
    rows_part i d h =
        rw (rows_drop xs wide, drop-cons xs i d) (take_at (f (get_or xs i d)) (flat_map f (drop (suc i) xs)) w (wide (get_or xs i d) (mem_at xs d h)))

-- a buffer filled with such rows, one by one: no row yet; row i put over its stretch; at the end nothing else is left
module _ {A B : Type 0} (w : ℕ) (f : A → List B) (wide : (x : A) → length (f x) ≡ w) where
  pub rows_none : (xs : List A) (out₀ : List B) → out₀ ≡ flat_map f (take 0 xs) ++ drop (w * 0) out₀
  unfolding flat_map
  rows_none xs out₀ = rw mul-zero

  pub rows_more : (xs : List A) (i : ℕ) (d : A) (out₀ out out' : List B) → i < length xs → out ≡ flat_map f (take i xs) ++ drop (w * i) out₀
      → out' ≡ take (w * i) out ++ (f (get_or xs i d) ++ drop w (drop (w * i) out)) → out' ≡ flat_map f (take (i + 1) xs) ++ drop (w * (i + 1)) out₀
  unfolding flat_map
  rows_more xs i d out₀ out out' h e e' =
      let l : length (flat_map f (take i xs)) ≡ w * i = rows_length w f (take i xs) (λ x m. wide x)
      ∙ ap (λ (n : ℕ). w * n) (length-take-le i xs (omega arith)) in
      let t : take (w * i) out ≡ flat_map f (take i xs) = rw e (take_at (flat_map f (take i xs)) (drop (w * i) out₀) (w * i) l) in
      let r : drop (w * i) out ≡ drop (w * i) out₀ = rw e (drop_at (flat_map f (take i xs)) (drop (w * i) out₀) (w * i) l) in
      e' ∙ rw (t, r, drop-drop w (w * i) out₀, add-one i, mul-suc w i, take-suc xs i d h, flat_map_append, append-nil, append_assoc)

  pub rows_end : (xs : List A) (i : ℕ) (out₀ out : List B) → length out₀ ≤ w * i → out ≡ flat_map f (take i xs) ++ drop (w * i) out₀ → out ≡ flat_map f (take i xs)
  rows_end xs i out₀ out h e = rw (drop_of_length-le out₀ h, append-nil) at e
