-- A row of values, read one after another. The invariant: what all the fields hold is what was read before what is left.
use Rattle.std.proofs.Common.{◌≡◌, ℕ, zero, suc, ◌+◌, ◌-◌, ◌<◌, ◌≤◌, eqb, List, [], ◌∷◌, ◌++◌, length, take, set, ℤ, sym, refl, ap, ◌∙◌, append_assoc, append-nil, add-one, arith, length-set, take_all, take-suc-set}
use Rattle.std.specs.Prelude.{Option, None, Some}
use Rattle.std.specs.Option.{option_eq}
use native.Mathlib.Nat.{sub-zero}
use Rattle.methodology.specs.Text.{tab, LF, also}
use Rattle.fields.specs.Fields.{past, value_at, due, row_at, past_row}

pub due_last : (left : ℕ) → left ≡ 0 → LF ≡ due left
unfolding due
due_last zero e = refl
due_last (suc left) e = absurd (omega arith)

pub due_more : (left : ℕ) → (left ≡ 0 → ⊥) → tab ≡ due left
unfolding due
due_more zero n = absurd (n refl)
due_more (suc left) n = refl

-- values already read, before those that are left
unfoldable pub behind : List ℤ → Option (List ℤ) → Option (List ℤ)
behind zs None = None
behind zs (Some l) = Some (zs ++ l)

behind_none : (o : Option (List ℤ)) → o ≡ behind [] o
unfolding behind
behind_none None = refl
behind_none (Some l) = refl

behind_also : (zs : List ℤ) (z : ℤ) (o : Option (List ℤ)) → behind zs (also (Some z) o) ≡ behind (zs ++ (z ∷ [])) o
unfolding behind also
behind_also zs z None = refl
behind_also zs z (Some l) = ap Some (sym (append_assoc zs (z ∷ []) l))

-- a reader of n fields of a text that has read j of them into row
module _ (text : List ℕ) (kind_place : Option ℕ) (n : ℕ) where
  pub record RowSoFar (row : List ℤ) (rest : List ℕ) (j : ℕ) : Type 0 where
    pub few : j ≤ n
    pub long : length row ≡ n
    pub reads : row_at kind_place 0 n text ≡ behind (take j row) (row_at kind_place j (n - j) rest)
    pub past_is : past_row n text ≡ past_row (n - j) rest

  pub rows_start : (row : List ℤ) → length row ≡ n → RowSoFar row text 0
  rows_start row l = record { few = omega arith; long = l; reads = rw sub-zero (behind_none (row_at kind_place 0 n text)); past_is = rw sub-zero }

  module _ {row : List ℤ} {rest : List ℕ} {j : ℕ} (s : RowSoFar row rest j) where
    left_is : j < n → n - j ≡ suc (n - j - 1)
    left_is h = omega arith

    pub rows_bad : j < n → value_at (option_eq eqb (Some j) kind_place) (due (n - j - 1)) rest ≡ None → row_at kind_place 0 n text ≡ None
    unfolding row_at also behind
    rows_bad h e = s.reads ∙ ap (λ (m : ℕ). behind (take j row) (row_at kind_place j m rest)) (left_is h) ∙ rw e

    pub rows_on : (z : ℤ) → j < n → value_at (option_eq eqb (Some j) kind_place) (due (n - j - 1)) rest ≡ Some z → RowSoFar (set row j z) (past rest) (j + 1)
    unfolding row_at past_row
    rows_on z h e =
        let q : n - j - 1 ≡ n - suc j = omega arith in
        record {
          few = omega arith;
          long = length-set row j z ∙ s.long;
          reads =
              s.reads
              ∙ ap (λ (i : ℕ). behind (take j row) (row_at kind_place j i rest)) (left_is h)
              ∙ rw (e, q, add-one j, take-suc-set row j z (omega (arith, s.long))) (behind_also (take j row) z (row_at kind_place (suc j) (n - suc j) (past rest)));
          past_is = s.past_is ∙ ap (λ (i : ℕ). past_row i rest) (left_is h) ∙ rw (q, add-one j);
        }

    pub rows_end : n ≤ j → (row_at kind_place 0 n text ≡ Some row) × (rest ≡ past_row n text)
    unfolding row_at behind past_row
    rows_end h =
        let z : n - j ≡ 0 = omega arith in (
          s.reads ∙ ap (λ (m : ℕ). behind (take j row) (row_at kind_place j m rest)) z ∙ rw (take_all j row (omega (arith, s.long))) (ap Some (append-nil row)),
          sym (s.past_is ∙ ap (λ (m : ℕ). past_row m rest) z),
        )
