-- What the program found of a day is the day's: T and each member's loss, which is a part of it.
use mathlib.Core.Path.{◌≡◌, refl, sym, ap, ◌∙◌}
use mathlib.Core.List.{List}
use Prim.Native.Nat.{ℕ, ◌+◌, ◌≤◌, ◌<◌}
use native.Mathlib.Omega.{arith}
use lib.ListN.{get_or}
use lib.Seq.{get_or-take}
use Rattle.std.proofs.lemmas.List.FromFn.{get_or-map-range_with_len}
use Rattle.numbers.proofs.Lists.{range_mem}
use Rattle.methodology.specs.declared.Opening.{Opening}
use Rattle.methodology.specs.Account.{Account}
use Rattle.methodology.specs.Member.{loss}
use Rattle.methodology.specs.Day.{total}
use Rattle.exposure.specs.declared.day.Losses.{Losses}
use Rattle.exposure.specs.DayFigures.{LossesAre}
use Rattle.exposure.proofs.MaxTotal.{loss_le_total}

module _ (o : Opening) (accts : List Account) (r : Losses) (found : LossesAre o.n o.k accts r) where
  pub total_is : r.total ≡ total o accts
  unfolding total
  total_is = found.total

  pub loss_at : (i : ℕ) → i < o.n → get_or r.each i 0 ≡ loss o.k accts (1 + i)
  loss_at i l =
      sym (get_or-take o.n r.each i 0 l)
      ∙ ap (λ (x : List ℕ). get_or x i 0) found.each
      ∙ get_or-map-range_with_len (loss o.k accts) 1 o.n i (1 + i) 0 l refl

  pub loss_part : (i : ℕ) → i < o.n → get_or r.each i 0 ≤ r.total
  loss_part i l = rw (loss_at i l, total_is) (loss_le_total o accts {m = 1 + i} (range_mem 1 o.n (omega arith) (omega arith)))
