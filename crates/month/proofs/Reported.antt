-- Demand 1 from bytes to bytes, of the program. The record `Reported` is the claim, whole: the compiled function `report` meets its
-- contract, which asks nothing of its caller and names every byte. `reported` proves it.
use mathlib.Core.Path.{◌≡◌, refl}
use seplogic.Ra.Ura.{Ura}
use base.Logic.{SProp}
use prog.Memory.{Memory}
use prog.Model.{Model}
use prog.Machine.{Program}
use prog.Routine.{Routine, machine}
use prog.Linked.{Has, in_program, machine-Follows, Has-Wired}
use types.Logic.{Logic}
use contract.Monad.{Fun, fact}
use contract.Notation.{connectives}
use contract.Lifetimes.{Lfts}
use contract.Running.{Running, within}
use denote.Triple.Entry.{Args, Res}
use denote.Triple.Spec.{Meets}
use denote.Triple.Clauses.{AtExit}
use Rattle.methodology.specs.Text.{report_of}
use Rattle.report.specs.Put.{Put}
use Rattle.month.specs.contracts.report as report-fn
use Rattle.month.proofs.report.Symbol as report-code
use Rattle.month.proofs.report.Statement as report-stated
use Rattle.month.proofs.report.Met as report-proved

pub record Reported : Type 2 where
  -- in any environment that has its code it ends, on every text and every buffer, without a panic, and does what its clauses say (or stops
  -- the process, where the model allows it a status to stop at)
  pub report_met : {M : Type 1} → report-stated.statement M
  -- and so on the machine, on any program that has its code and that of all that it calls
  pub report_on_machine :
      {M : Type 1} {𝓤 : Ura M} (𝓛 : Logic 𝓤) (𝓜 : Model 𝓤 𝓛.H) (𝓡 : Running 𝓤 𝓛.H 𝓜) (P : Program) → Has (in_program P) report-code.code
      → Meets 𝓛 report-fn.signature (𝓡.run (machine P report-code.name)) (report-fn.spec 𝓛 𝓜.mem 𝓡.returns)
  -- the clauses: the report's bytes stand in the buffer, from its start and as far as it has room, every other byte is as it was
  pub report_ensures :
      {M : Type 1} {𝓤 : Ura M} (𝓛 : Logic 𝓤) (mem : Memory → SProp 𝓤) (run : Routine → Fun 𝓤)
      (κs : Lfts 2) (a : Args report-fn.signature κs) (r : Res report-fn.signature κs) (e : AtExit report-fn.ended κs)
      → (report-fn.clauses 𝓛 mem run κs a).ensures tt r e ≡ fact 𝓤 (Put a.1.0.now 0 (report_of a.0.now) e.1.0.now r)
  pub report_requires :
      {M : Type 1} {𝓤 : Ura M} (𝓛 : Logic 𝓤) (mem : Memory → SProp 𝓤) (run : Routine → Fun 𝓤)
      (κs : Lfts 2) (a : Args report-fn.signature κs)
      → (report-fn.clauses 𝓛 mem run κs a).requires tt ≡ (connectives 𝓤).⊤ₛ

pub reported : Reported
reported =
    record {
      report_met = report-proved.met;
      report_on_machine =
          λ {𝓤 = 𝓤} 𝓛 𝓜 𝓡 P has.
          report-proved.met 𝓤 𝓛 𝓜 (within 𝓤 𝓛.H 𝓜 𝓡 (machine P)) (Has-Wired (in_program P) (machine P) (machine-Follows P) report-code.code has);
      report_ensures = λ 𝓛 mem run κs a r e. refl;
      report_requires = λ 𝓛 mem run κs a. refl;
    }
