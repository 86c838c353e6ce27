-- A day's turn in the report: what is due before it, what it prints, and what is due after it.
use Rattle.std.specs.Prelude.{List, ◌++◌, ◌≡◌, ℕ, Option, MatchOption}
use Rattle.methodology.specs.Register.{Register}
use Rattle.methodology.specs.Text.{LF, split, day, report_from}
use Rattle.report.specs.declared.Printer.{Printer}
use Rattle.report.specs.Prints.{Prints}
use Rattle.answers.specs.InStep.{InStep}
use Rattle.day.specs.declared.Progress.{Progress}

-- the report of a text from the line at its front on, which is number `line`, where a day line or the end line is due
abbrev pub days_due : (text : List ℕ) → (line : ℕ) → Register → List ℕ
days_due text line g = report_from line (split LF text) (day g)

-- a register and a report that has come so far are in step
abbrev pub Stands : Register → Progress → Type 0
Stands g from = InStep g from.period from.n from.k

-- what is due is some lines, which are printed, and then the report from `to` on
pub record GoesOn (due : List ℕ) (before after : Printer) (to : Progress) : Type 0 where
  pub g : Register
  pub stands : Stands g to
  pub lines : List ℕ
  pub printed : Prints before lines after
  pub left : due ≡ lines ++ days_due to.rest.now to.line g

-- what a turn comes to: the report is over, or it goes on
abbrev pub TurnMeets : (due : List ℕ) → (before after : Printer) → Option Progress → Type 0
TurnMeets due before after result = MatchOption result (Prints before due after) (GoesOn due before after)
