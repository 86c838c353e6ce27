-- A member's row of EULs, filled scenario by scenario.
use mathlib.Core.Path.{◌≡◌, ap, ◌∙◌}
use mathlib.Core.List.{List}
use Prim.Native.Nat.{ℕ, suc, ◌+◌, ◌≤◌, ◌<◌, ◌^◌}
use native.Mathlib.Numerals.{add-one}
use native.Mathlib.Omega.{arith}
use lib.IntN.{ℤ, pos, nat_abs}
use lib.Signed.{mag}
use lib.ListN.{get_or, set, replicate, length-replicate}
use mir.Syntax.{w64}
use mir.Val.{to_z, of_z}
use Rattle.numbers.proofs.Signed.{back_ok}
use Rattle.numbers.proofs.Lists.{at_set, replicate_at}
use Rattle.numbers.proofs.Filling.{Filled, filled_none, filled_more}
use Rattle.methodology.specs.Account.{Account, eul_under}
use Rattle.methodology.specs.Member.{member_eul}
use Rattle.exposure.specs.AccountsIn.{most_eul, RowIs}
use Rattle.exposure.proofs.Tables.{is_row}

pub record RowPass (accts : List Account) (row : List ℤ) (j : ℕ) : Type 0 where
  pub filled : Filled 16 (λ x. member_eul (eul_under (suc x)) accts) (pos 0) (replicate 16 (pos 0)) j row
  pub bound : (x : ℕ) → nat_abs (get_or row x (pos 0)) ≤ most_eul

module _ (accts : List Account) where
  pub row_none : RowPass accts (replicate 16 (pos 0)) 0
  row_none =
      record {
        filled = filled_none 16 _ (pos 0) (replicate 16 (pos 0)) (length-replicate 16 (pos 0));
        bound = λ x. rw (replicate_at 16 x (pos 0)) (omega arith);
      }

  pub row_more : {row : List ℤ} {j : ℕ} (e : ℤ) → j < 16 → mag e < 2 ^ 63 → e ≡ member_eul (eul_under (j + 1)) accts → nat_abs e ≤ most_eul → RowPass accts row j
      → RowPass accts (set row j (to_z w64 (of_z w64 e))) (j + 1)
  row_more {row} {j} e h ok is near p =
      let v : to_z w64 (of_z w64 e) ≡ e = back_ok w64 e ok in
      record {
        filled = filled_more 16 _ (pos 0) (replicate 16 (pos 0)) h (v ∙ is ∙ ap (λ (n : ℕ). member_eul (eul_under n) accts) (add-one j)) p.filled;
        bound = at_set (λ x z. nat_abs z ≤ most_eul) row j (to_z w64 (of_z w64 e)) (pos 0) (omega (arith, p.filled.long)) (rw v near) (λ x q. p.bound x);
      }

  pub row_all : {row : List ℤ} {j : ℕ} (k : ℕ) → j ≤ k → k ≤ j → RowPass accts row j → RowIs k accts row
  row_all {row} {j} k h g p =
      let e : j ≡ k = omega arith in
      record { is = is_row k (λ n. member_eul (eul_under n) accts) (rw e at p.filled); bound = p.bound }
