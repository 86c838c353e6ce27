-- What an answer tells of the refusal table: that it lets the call pass, or a row by its number and index.
use mathlib.Core.Path.{◌≡◌, refl, sym}
use mathlib.Core.List.{List}
use Prim.Native.Nat.{ℕ}
use native.Mathlib.Omega.{arith}
use Rattle.std.specs.Prelude.{Option, Some, None, Ok, Err}
use Rattle.methodology.specs.declared.Refusal.{Refusal}
use Rattle.methodology.specs.RowNumbers.{row_number, row_index}
use Rattle.methodology.specs.Refusals.{Verdict, clear}
use Rattle.methodology.specs.Register.{accepted, refused_with, refused_by, answer_by}

accepted_only : (figures : List ℕ) (number : ℕ) (index : Option ℕ) → accepted figures ≡ refused_with number index → ⊥
accepted_only figures number None e = let z : ◌≡◌ {A = ℕ} 0 1 = cc in omega arith
accepted_only figures number (Some i) e = let z : ◌≡◌ {A = ℕ} 0 1 = cc in omega arith

same_row : (n m : ℕ) (i j : Option ℕ) → refused_with n i ≡ refused_with m j → (n ≡ m) × (i ≡ j)
same_row n m None None e = (cc, refl)
same_row n m None (Some j) e = let z : ◌≡◌ {A = ℕ} 0 1 = cc in absurd (omega arith)
same_row n m (Some i) None e = let z : ◌≡◌ {A = ℕ} 0 1 = cc in absurd (omega arith)
same_row n m (Some i) (Some j) e = (cc, cc)

pub is_clear : (x : Verdict) (figures ys : List ℕ) → answer_by x figures ≡ accepted ys → (x ≡ clear) × (figures ≡ ys)
is_clear (Ok _) figures ys e = (refl, cc)
is_clear (Err met) figures ys e = absurd (accepted_only ys (row_number met) (row_index met) (sym e))

-- the row that a call meets is the one that is told
pub record Told (x : Verdict) (told : Refusal) : Type 0 where
  pub met : Refusal
  pub is : x ≡ Err met
  pub number : row_number met ≡ row_number told
  pub index : row_index met ≡ row_index told

pub is_told : (x : Verdict) (figures : List ℕ) (told : Refusal) → answer_by x figures ≡ refused_by told → Told x told
is_told (Ok _) figures told e = absurd (accepted_only figures (row_number told) (row_index told) e)
is_told (Err met) figures told e =
    let (n, i) = same_row (row_number met) (row_number told) (row_index met) (row_index told) e in
    record { met = met; is = refl; number = n; index = i }
