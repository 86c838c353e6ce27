-- The field at the front of a text, byte by byte: where `position` finds its end, and what it is at an index where it ends or goes on.
use Rattle.std.proofs.Common.{◌≡◌, ℕ, suc, ◌+◌, ◌-◌, ◌<◌, ◌≤◌, Bool, true, false, ◌||◌, eqb, List, [], ◌∷◌, length, get_or, take, drop, sym, refl, ap, ◌∙◌, arith, length-take-le, drop-cons, ne_eqb, eqb-true}
use Rattle.std.specs.Prelude.{Option}
use Rattle.std.specs.List.{position, position_or_len}
use Rattle.std.specs.Option.{unwrap_or}
use Rattle.std.proofs.lemmas.Slice.{between_to_end}
use Rattle.std.proofs.lemmas.List.Sums.{prefix_len-le-length}
use Rattle.numbers.proofs.Lists.{first_cons, first_or_all}
use Rattle.methodology.specs.Text.{tab, LF, split}
use Rattle.methodology.proofs.Splits.{split_first}
use Rattle.fields.specs.Fields.{stops, size, front, past}

-- the part up to the first b
pub part_first : (b : ℕ) (s : List ℕ) (o : Option ℕ) (e : ℕ) → o ≡ position (λ x. eqb x b) s → e ≡ unwrap_or o (length s) → take e s ≡ get_or (split b s) 0 []
part_first b s o e found end =
    let at : e ≡ position_or_len (λ x. eqb x b) s = end ∙ ap (λ (r : Option ℕ). unwrap_or r (length s)) found ∙ first_or_all (λ x. eqb x b) s in
    rw at (sym (ap (λ (l : List (List ℕ)). get_or l 0 []) (split_first b s)))

-- ---- its bytes

pub no_stop : (x : ℕ) → 10 < x → stops x ≡ false
no_stop x h = rw (ne_eqb x tab (λ e. omega arith), ne_eqb x LF (λ e. omega arith))

pub stop_is : (x : ℕ) → stops x ≡ true → (9 ≤ x) × (x ≤ 10)
stop_is x e = by (eqb x tab) refl e
  where
    by : (t : Bool) → eqb x tab ≡ t → (t || eqb x LF) ≡ true → (9 ≤ x) × (x ≤ 10)
    by true q e = let k = eqb-true x tab q in omega arith
    by false q e = let k = eqb-true x LF e in omega arith

pub front_length : (s : List ℕ) → length (front s) ≡ size s
front_length s = length-take-le (size s) s (prefix_len-le-length _ s)

module _ (s : List ℕ) (i : ℕ) (h : i < length s) where
  pub size_stop : stops (get_or s i 0) ≡ true → size (drop i s) ≡ 0
  size_stop e = rw (drop-cons s i 0 h, e)

  pub size_more : stops (get_or s i 0) ≡ false → size (drop i s) ≡ suc (size (drop (suc i) s))
  size_more e = rw (drop-cons s i 0 h) (first_cons stops (get_or s i 0) (drop (suc i) s) e)

  pub front_more : stops (get_or s i 0) ≡ false → front (drop i s) ≡ get_or s i 0 ∷ front (drop (suc i) s)
  front_more e = rw (drop-cons s i 0 h, first_cons stops (get_or s i 0) (drop (suc i) s) e)

-- what a slice from the byte after the end holds
pub rest_is : (s : List ℕ) (i : ℕ) → size s ≡ i → take (length s - (i + 1)) (drop (i + 1) s) ≡ past s
rest_is s i e = between_to_end s (i + 1) (length s) (omega arith) ∙ ap (λ (n : ℕ). drop (n + 1) s) (sym e)
