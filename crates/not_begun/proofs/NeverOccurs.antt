-- A number that no row of the refusal table has is in no answer and in no report: every answer is the table's, and every line of a report
-- that tells of a refusal has a number that occurs. `number_8_never_occurs` is Change 2's, `number_7_never_occurs`
-- Change 4's.
use mathlib.Core.Path.{◌≡◌, refl, sym, ap, subst, ◌∙◌}
use mathlib.Core.Bool.{true, false, true≢false}
use mathlib.Core.List.{List, [], ◌∷◌, map}
use Prim.Native.Nat.{ℕ}
use Rattle.numbers.proofs.Lists.{every_weaken}
use Rattle.std.specs.Prelude.{Option, Some, None, Ok, Err}
use Rattle.std.specs.List.{AllByRecursion}
use Rattle.methodology.specs.RowNumbers.{row_number, row_index}
use Rattle.methodology.specs.Refusals.{Verdict}
use Rattle.methodology.specs.Register.{Register, start, refusal, step, refused_with, answer_by, answer}
use Rattle.methodology.specs.Text.{report_of}
use Rattle.methodology.proofs.RowLimits.{occurs, row_occurs}
use Rattle.demand3.specs.Made.{Made, call_of}
use Rattle.demand3.specs.Demand3.{Agrees, Holds}
use Rattle.demand3.proofs.Demand3.{made_of}
use Rattle.demand3.proofs.Demand3Proved.{demand_3}
use Rattle.as_printed.specs.AsPrinted.{lines_of}
use Rattle.as_printed.proofs.DayShown.{Told}
use Rattle.as_printed.proofs.EveryReport.{refusals_told}
use Rattle.not_begun.specs.NeverOccurs.{IsRow, IsRefusal, AnsweredBy, Tells, NeverOccurs}

module _ (number : ℕ) (gone : occurs number ≡ false) where
  other : {r : ℕ} → occurs r ≡ true → ¬ (r ≡ number)
  other h is = true≢false (sym h ∙ ap occurs is ∙ gone)

  not_met : (x : Verdict) → ¬ IsRow number x
  not_met (Ok _) h = h
  not_met (Err met) h = other (row_occurs met) h

  not_with : (r : ℕ) (index : Option ℕ) → occurs r ≡ true → ¬ IsRefusal number (refused_with r index)
  not_with r None there h = other there h
  not_with r (Some i) there h = other there h

  not_refused : (x : Verdict) (figures : List ℕ) → ¬ IsRefusal number (answer_by x figures)
  not_refused (Ok _) figures h = h
  not_refused (Err met) figures h = not_with (row_number met) (row_index met) (row_occurs met) h

  -- calls that agree with the register
  not_answered : (g : Register) (c : Made) → Agrees g c → ¬ AnsweredBy number c
  unfolding answer
  not_answered g c agreed =
      subst (λ a. ¬ IsRefusal number a) (sym agreed.answer) (not_refused (refusal g (call_of c.asked)) _)

  none_answered : (g : Register) (cs : List Made) → Holds g cs → AllByRecursion (λ c. ¬ AnsweredBy number c) cs
  none_answered g [] h = tt
  none_answered g (c ∷ cs) (agreed, _, h) = (not_answered g c agreed, none_answered (step g (call_of c.asked)) cs h)

  pub never_occurs : NeverOccurs number
  never_occurs =
      record {
        no_refusal = λ g c. not_met (refusal g c);
        no_answer = λ cs made. none_answered start cs (demand_3.every_list cs made);
        no_compiled_answer = λ 𝓛 mem run cs from. none_answered start (map made_of cs) (demand_3.compiled_lists 𝓛 mem run cs from);
        no_line = λ text. every_weaken Told (λ l. ¬ Tells number l) (λ l told (word, is). other (told word) is) (lines_of (report_of text)) (refusals_told text);
      }

pub number_8_never_occurs : NeverOccurs 8
number_8_never_occurs = never_occurs 8 refl

pub number_7_never_occurs : NeverOccurs 7
number_7_never_occurs = never_occurs 7 refl
