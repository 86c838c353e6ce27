-- What a call leaves to be printed fits 64 bits: the sums of an accepted day, by the most that it writes, and the line that a refused opening
-- or day names, by the most that a member or an index can be.
use mathlib.Core.Path.{◌≡◌, sym, subst, ◌∙◌}
use mathlib.Core.List.{List}
use Prim.Native.Nat.{ℕ, ◌+◌, ◌^◌, ◌≤◌, ◌<◌}
use native.Mathlib.Omega.{arith}
use lib.ListN.{length}
use Rattle.std.specs.Prelude.{Option, Some, None}
use Rattle.std.specs.List.{AllByRecursion}
use Rattle.methodology.specs.declared.Refusal.{Refusal}
use Rattle.methodology.specs.declared.Opening.{Opening}
use Rattle.methodology.specs.RowNumbers.{row_index}
use Rattle.methodology.specs.Account.{DayInput}
use Rattle.methodology.specs.Day.{dailies}
use Rattle.methodology.specs.Register.{accepted, refused_by}
use Rattle.methodology.specs.Text.{opening_line_named, line_named, totals}
use Rattle.methodology.proofs.RowLimits.{RowFew, opening_few, day_few}
use Rattle.methodology.proofs.RowLimits.{Few as IndexFew}
use Rattle.period.specs.declared.Period.{Period}
use Rattle.period.specs.Calls.{held_by, status_of, opening_row, OpeningMeets, accounts_brought, day_row, reported_by, DayMeets}
use Rattle.period.proofs.Sizing.{passes_all, written_few}
use Rattle.fund.proofs.Dailies.{Few}
use Rattle.answers.proofs.Columns.{totals_fit}
use Rattle.answers.proofs.RefusalRows.{is_clear, is_told}

pub opening_line : {p left : Period} {o : Opening} (met : Refusal) → OpeningMeets p o (refused_by met) left → opening_line_named (row_index met) ≤ 257
unfolding opening_row
opening_line {p} {o = o} met m =
    let t = is_told (opening_row p o) _ met (sym m.answer) in
    by (row_index met) (subst IndexFew t.index (subst RowFew t.is (opening_few (status_of p) o)))
  where
    by : (member : Option ℕ) → IndexFew member → opening_line_named member ≤ 257
    by None h = omega arith
    by (Some member) h = omega arith

module _ {p left : Period} {d : DayInput} {before after : List ℕ} where
  pub day_sums : {figures : List ℕ} → DayMeets p d before (accepted figures) left after → (n : ℕ) → n ≤ 32 → AllByRecursion (λ x. x < 2 ^ 64) (totals n after)
  day_sums m n few =
      let clear = (is_clear (day_row p d (length before)) _ _ (sym m.answer)).0 in
      let writes : after ≡ dailies (held_by p) (reported_by p d) (accounts_brought p d) = m.buffer ∙ rw clear in
      totals_fit n after few (subst (AllByRecursion Few) (sym writes) (written_few (passes_all p d (length before) clear)))

  pub day_line : (met : Refusal) → DayMeets p d before (refused_by met) left after → (line : ℕ) → line_named line (row_index met) ≤ line + 257
  unfolding day_row
  day_line met m line =
      let t = is_told (day_row p d (length before)) _ met (sym m.answer) in
      by (row_index met) (subst IndexFew t.index (subst RowFew t.is (day_few (status_of p) (held_by p) p.accrued.last d (length before))))
    where
      by : (index : Option ℕ) → IndexFew index → line_named line index ≤ line + 257
      by None h = omega arith
      by (Some index) h = omega arith
