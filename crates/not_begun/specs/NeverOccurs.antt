-- Document 02, Change 2: "Number 8 no longer occurs"; Change 4: "Number 7 no longer occurs". `NeverOccurs` is the claim, of
-- one number; proved of 7 and of 8 in proofs/NeverOccurs.antt.
use Rattle.std.specs.Prelude.{◌≡◌, true, List, map, ℕ, Ok, Err, get_or}
use Rattle.std.specs.List.{AllByRecursion}
use seplogic.Ra.Ura.{Ura}
use base.Logic.{SProp}
use prog.Memory.{Memory}
use prog.Routine.{Routine}
use types.Logic.{Logic}
use contract.Monad.{Fun}
use Rattle.methodology.specs.RowNumbers.{row_number}
use Rattle.methodology.specs.Refusals.{Verdict}
use Rattle.methodology.specs.Register.{Call, Register, refusal, Answer, accepted, refused, refused_at}
use Rattle.methodology.specs.Text.{bytes, same, report_of}
use Rattle.period.specs.Calls.{fresh_period}
use Rattle.demand3.specs.Made.{Made, MadeOn}
use Rattle.demand3.proofs.Demand3.{Called, made_of, FromFresh}
use Rattle.as_printed.specs.AsPrinted.{Line, lines_of}

-- a row of this number
abbrev pub IsRow : (number : ℕ) → Verdict → Type 0
IsRow number (Ok _) = ⊥
IsRow number (Err met) = row_number met ≡ number

-- an answer that is a refusal by this number
abbrev pub IsRefusal : (number : ℕ) → Answer → Type 0
IsRefusal number (accepted figures) = ⊥
IsRefusal number (refused r) = r ≡ number
IsRefusal number (refused_at r index) = r ≡ number

abbrev pub AnsweredBy : (number : ℕ) → Made → Type 0
AnsweredBy number c = IsRefusal number c.answer

-- a line of a report, as it is read, that tells of such a refusal: `refused`, and this number first
abbrev pub Tells : (number : ℕ) → Line → Type 0
Tells number l = (same l.word (bytes "refused") ≡ true) × (get_or l.numbers 0 0 ≡ number)

pub record NeverOccurs (number : ℕ) : Type 2 where
  -- the refusal table, for every register and every call
  pub no_refusal : (g : Register) (c : Call) → ¬ IsRow number (refusal g c)
  -- so the calls, in every list of them
  pub no_answer : (cs : List Made) → MadeOn fresh_period cs → AllByRecursion (λ c. ¬ AnsweredBy number c) cs
  -- and of the compiled functions, as demand 3 has them
  pub no_compiled_answer :
      {M : Type 1} {𝓤 : Ura M} (𝓛 : Logic 𝓤) (mem : Memory → SProp 𝓤) (run : Routine → Fun 𝓤)
      (cs : List Called) → FromFresh 𝓛 mem run cs → AllByRecursion (λ c. ¬ AnsweredBy number c) (map made_of cs)
  -- and the report of every text
  pub no_line : (text : List ℕ) → AllByRecursion (λ l. ¬ Tells number l) (lines_of (report_of text))
