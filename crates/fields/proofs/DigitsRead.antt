-- The decimal digits of a field: which fields are numbers, how large a number is, and a reader that goes from digit to digit.
use Rattle.std.proofs.Common.{◌≡◌, ℕ, suc, ◌+◌, ◌-◌, ◌*◌, ◌^◌, ◌<◌, ◌≤◌, min, Bool, true, false, cond, not, ◌&&◌, ◌||◌, eqb, ltb, List, [], ◌∷◌, length, get_or, take, drop, sym, refl, ap, ◌∙◌, subst, ⊎_elim, add-zero, pow-suc, add-one, arith, get_or-take, ltb-false, le-ltb, lt-ltb, eq-eqb, ne_eqb, eqb-true}
use mathlib.Core.Bool.{or-true, not-not}
use Rattle.std.specs.Prelude.{Option, None, Some}
use Rattle.std.proofs.lemmas.Option.{none-some}
use native.Mathlib.Nat.{pow-le-pow_right}
use lib.ListN.{get_or-eq_default}
use Rattle.std.specs.List.{list_any}
use Rattle.numbers.proofs.Tests.{neither}
use Rattle.methodology.specs.Refusals.{outside}
use Rattle.methodology.specs.Text.{is_digit, value_from, number_of}
use Rattle.fields.specs.Fields.{stops, not_digit, size, front, ender, Run, Over, number_at}
use Rattle.fields.proofs.Fronts.{no_stop, stop_is, front_length, size_stop, size_more, front_more}

-- ---- one byte

not_odd : (x : ℕ) → 48 ≤ x → x ≤ 57 → not_digit x ≡ false
not_odd x h k = rw (le-ltb x 48 h, le-ltb 57 x k)

pub digit_is : (x : ℕ) → is_digit x ≡ true → (48 ≤ x) × (x ≤ 57)
digit_is x e =
    let (h, k) = neither (ltb x 48) (ltb 57 x) (sym (not-not (outside 48 57 x)) ∙ ap not e) in
    (ltb-false x 48 h, ltb-false 57 x k)

digit_most : (x : ℕ) → not_digit x ≡ false → x ≤ 57
digit_most x e = ltb-false 57 x (neither (ltb x 48) (ltb 57 x) (sym (not-not (outside 48 57 x)) ∙ e)).1

ten : (i v d : ℕ) → v < 10 ^ i → d ≤ 9 → 10 * v + d < 10 ^ suc i
ten i v d h k = rw (pow-suc 10 i) (omega arith)

-- ---- which fields are numbers

number_short : (f : List ℕ) → length f ≡ 0 → number_of f ≡ None
unfolding number_of
number_short f h = rw (lt-ltb (length f) 1 (omega arith))

number_long : (f : List ℕ) → 13 < length f → number_of f ≡ None
unfolding number_of
number_long f h = rw (lt-ltb 13 (length f) h, or-true)

number_odd : (f : List ℕ) → list_any not_digit f ≡ true → number_of f ≡ None
unfolding number_of
number_odd f e = rw (e, or-true)

number_zeros : (f : List ℕ) → get_or f 0 0 ≡ 48 → 1 < length f → number_of f ≡ None
unfolding number_of
number_zeros f e h = rw (eq-eqb (get_or f 0 0) 48 e, lt-ltb 1 (length f) h, or-true)

number_good : (f : List ℕ) → 0 < length f → length f ≤ 13 → list_any not_digit f ≡ false → (get_or f 0 0 ≡ 48 → length f ≡ 1) → number_of f ≡ Some (value_from 0 f)
unfolding number_of
number_good f h k e z = rw (le-ltb (length f) 1 h, le-ltb 13 (length f) k, e) (by (eqb (get_or f 0 0) 48) refl)
  where
    by : (t : Bool) → eqb (get_or f 0 0) 48 ≡ t → cond (t && ltb 1 (length f)) None (Some (value_from 0 f)) ≡ Some (value_from 0 f)
    by true q = rw (le-ltb 1 (length f) (omega (arith, z (eqb-true (get_or f 0 0) 48 q))))
    by false q = refl

-- ---- how large a number is

value_bound : (f : List ℕ) (v i : ℕ) → v < 10 ^ i → list_any not_digit f ≡ false → value_from v f < 10 ^ (i + length f)
unfolding value_from
value_bound [] v i h e = rw add-zero h
value_bound (x ∷ f) v i h e =
    let w = neither (not_digit x) (list_any not_digit f) e in
    let d : x - 48 ≤ 9 = omega (arith, digit_most x w.0) in
    let z : suc i + length f ≡ i + suc (length f) = omega arith in
    rw (← z) (value_bound f (10 * v + (x - 48)) (suc i) (ten i v (x - 48) h d) w.1)

pub number_bound : (f : List ℕ) (v : ℕ) → number_of f ≡ Some v → v < 10 ^ 13
unfolding number_of
number_bound f v e =
    by (ltb (length f) 1) (ltb 13 (length f)) (list_any not_digit f) (eqb (get_or f 0 0) 48 && ltb 1 (length f)) refl refl e
  where
    by : (a b c d : Bool) → ltb 13 (length f) ≡ b → list_any not_digit f ≡ c → cond (a || b || c || d) None (Some (value_from 0 f)) ≡ Some v → v < 10 ^ 13
    by true b c d p q e = absurd (none-some v e)
    by false true c d p q e = absurd (none-some v e)
    by false false true d p q e = absurd (none-some v e)
    by false false false true p q e = absurd (none-some v e)
    by false false false false p q e =
        let same : value_from 0 f ≡ v = cc in
        let l : 0 + length f ≤ 13 = omega (arith, ltb-false 13 (length f) p) in
        omega (arith, same, value_bound f 0 0 (omega arith) q, pow-le-pow_right {n = 10} (omega arith) l)

-- ---- a reader that is at index i, where the digits before i make v

module _ (s : List ℕ) where
  -- one more digit leaves room in 64 bits
  pub run_room : {i v : ℕ} → Run s i v → i < 13 → v < 10 ^ 12
  run_room {i} r h = let l : i ≤ 12 = omega arith in omega (arith, r.small, pow-le-pow_right {n = 10} (omega arith) l)

  pub run_on : {i v : ℕ} → Run s i v → i < length s → i < 13 → is_digit (get_or s i 0) ≡ true → Run s (i + 1) (10 * v + (get_or s i 0 - 48))
  unfolding value_from
  run_on {i} {v} r h n d =
      let b = get_or s i 0 in
      let (k, m) = digit_is b d in
      let f = front_more s i h (no_stop b (omega arith)) in
      record {
        within = omega arith;
        few = omega arith;
        small = rw (add-one i) (ten i v (b - 48) r.small (omega arith));
        value = rw (add-one i) (r.value ∙ ap (value_from v) f);
        odds = rw (add-one i) (r.odds ∙ ap (list_any not_digit) f ∙ rw (not_odd b k m));
        counts = rw (add-one i) (omega (arith, r.counts, size_more s i h (no_stop b (omega arith))));
      }

-- and where it ends, by the byte that ends the field
module _ (s : List ℕ) (end : ℕ) where
  abbrev F : List ℕ
  F = front s

  -- the ways to end
  no_number : number_of F ≡ None → number_at end s ≡ None
  unfolding number_at
  no_number e = rw e (by (eqb (ender s) end))
    where
      by : (t : Bool) → ◌≡◌ {A = Option ℕ} (cond t None None) None
      by true = refl
      by false = refl

  other_end : (ender s ≡ end → ⊥) → number_at end s ≡ None
  unfolding number_at
  other_end n = rw (ne_eqb (ender s) end n)

  good_end : (v : ℕ) → ender s ≡ end → number_of F ≡ Some v → number_at end s ≡ Some v
  unfolding number_at
  good_end v e n = rw (eq-eqb (ender s) end e, n)

  first : 0 < size s → get_or F 0 0 ≡ get_or s 0 0
  first h = get_or-take (size s) s 0 0 h

  module _ (i v : ℕ) (r : Run s i v) where
    abbrev b : ℕ
    b = get_or s i 0

    stops_here : i < length s → stops b ≡ true → size s ≡ i
    stops_here h e = omega (arith, r.counts, size_stop s i h e)

    -- the digits are over at i: there are 13 of them, or its byte is no digit, or the text ends
    abbrev pub Ended : Type 0
    Ended = Over s (min (length s) 13) i

    -- and it is not `end` that ends them
    pub other_bad : i < length s → Ended → (b ≡ end → ⊥) → number_at end s ≡ None
    other_bad h o n = by (stops b) refl
      where
        long : i ≡ min (length s) 13 → stops b ≡ false → number_at end s ≡ None
        long m e = no_number (number_long F (omega (arith, r.counts, size_more s i h e, front_length s)))

        odd : stops b ≡ false → not_digit b ≡ true → number_at end s ≡ None
        odd e t = no_number (number_odd F (r.odds ∙ ap (list_any not_digit) (front_more s i h e) ∙ rw t))

        by : (u : Bool) → stops b ≡ u → number_at end s ≡ None
        by true e = other_end (λ g. n (subst (λ (m : ℕ). get_or s m 0 ≡ end) (stops_here h e) g))
        by false e = ⊎_elim (λ m. long m e) (λ d. odd e (ap not d)) o

    -- nothing ends the field
    pub open_bad : stops end ≡ true → length s ≤ i → number_at end s ≡ None
    open_bad t h =
        let l : length s ≤ size s = omega (arith, r.counts) in
        other_end (λ e. let z = get_or-eq_default s 0 l in omega (arith, stop_is end t))

    -- `end` does
    module _ (h : i < length s) (at : b ≡ end) (t : stops end ≡ true) where
      pub size_is : size s ≡ i
      size_is = stops_here h (ap stops at ∙ t)

      pub empty_bad : i ≡ 0 → number_at end s ≡ None
      empty_bad e = no_number (number_short F (omega (arith, size_is, front_length s)))

      pub zeros_bad : get_or s 0 0 ≡ 48 → 1 < i → number_at end s ≡ None
      zeros_bad z m =
          let l : 1 < size s = omega (arith, size_is) in
          no_number (number_zeros F (first (omega arith) ∙ z) (omega (arith, front_length s)))

      pub run_good : (i ≡ 0 → ⊥) → (get_or s 0 0 ≡ 48 → i ≤ 1) → number_at end s ≡ Some v
      unfolding value_from
      run_good n z =
          let l : 0 < size s = omega (arith, size_is) in
          let none_left : front (drop i s) ≡ [] = ap (λ (m : ℕ). take m (drop i s)) (size_stop s i h (ap stops at ∙ t)) in
          let good : number_of F ≡ Some (value_from 0 F) =
          number_good F (omega (arith, front_length s)) (omega (arith, size_is, r.few, front_length s))
          (r.odds ∙ ap (list_any not_digit) none_left)
          (λ e. omega (arith, size_is, front_length s, z (sym (first l) ∙ e))) in
          good_end v (ap (λ (m : ℕ). get_or s m 0) size_is ∙ at) (good ∙ ap Some (r.value ∙ ap (value_from v) none_left))
