-- Demand 3, of the program. The record `Demand3` is the claim, whole: demand 3 of every list of calls; that calls with any arguments can be
-- made; that the compiled functions meet their contracts, and that these are the contracts which the lists speak of; and demand 3 of every
-- list of compiled calls. `demand_3` in Demand3Proved.antt proves it.
use mathlib.Core.Path.{◌≡◌}
use mathlib.Core.List.{List, [], ◌∷◌, ◌++◌, map}
use Prim.Native.Nat.{ℕ}
use seplogic.Ra.Ura.{Ura}
use base.Logic.{SProp}
use prog.Model.{Model}
use prog.Memory.{Memory}
use prog.Machine.{Program}
use prog.Routine.{Routine, Callee, machine}
use prog.Linked.{Has, in_program}
use prog.Wired.{Code, Wired}
use types.Logic.{Logic}
use contract.Monad.{Fun, fact}
use contract.Notation.{connectives}
use contract.Lifetimes.{Lfts}
use contract.Running.{Running, within}
use denote.Triple.Entry.{Args, Res}
use denote.Triple.Spec.{Meets as Meets-spec}
use denote.Triple.Clauses.{Ended, ClausesAt, Clauses, AtExit, closing as closing-of}
use Rattle.methodology.specs.Brought.{day_brought}
use Rattle.methodology.specs.Refusals.{clear}
use Rattle.methodology.specs.Register.{start, refusal}
use Rattle.period.specs.declared.Period.{Period}
use Rattle.period.specs.declared.Reply.{Reply}
use Rattle.period.specs.Reading.{brought, answer_of}
use Rattle.period.specs.Calls.{fresh_period}
use Rattle.period.specs.contracts.Period.fresh as fresh-fn
use Rattle.period.specs.contracts.Period.opening as opening-fn
use Rattle.period.specs.contracts.Period.day as day-fn
use Rattle.period.specs.contracts.Period.closing as closing-fn
use Rattle.period.proofs.Period.fresh.Symbol as fresh-code
use Rattle.period.proofs.Period.opening.Symbol as opening-code
use Rattle.period.proofs.Period.day.Symbol as day-code
use Rattle.period.proofs.Period.closing.Symbol as closing-code
use Rattle.demand3.specs.Made.{Asked, Returned, figures_of, Made, call_of, Meets, MadeOn}
use Rattle.demand3.specs.Demand3.{Covers, Holds, register_after, Narrow, CanBeMade}
use Rattle.demand3.proofs.Facts.{Ensured}
use Rattle.demand3.proofs.Returns.{Returns}

-- ---- the compiled functions

-- A compiled function, as the toolchain has it from the code: its signature, with what is known of its parameters at exit; its clauses; its
-- code, with that of all that it calls; and its name.
pub record Compiled : Type 3 where
  pub ended : Ended
  pub clauses : {M : Type 1} {𝓤 : Ura M} → (𝓛 : Logic 𝓤) → (Memory → SProp 𝓤) → (Routine → Fun 𝓤) → Clauses 𝓤 ended
  pub code : Code
  pub name : Callee

-- the one that makes the first period
abbrev pub fresh : Compiled
fresh = record { ended = fresh-fn.ended; clauses = fresh-fn.clauses; code = fresh-code.code; name = fresh-code.name }

-- those that are called on a period
pub data Method : Type 0 where
  opening : Method
  day : Method
  closing : Method

abbrev pub compiled : Method → Compiled
compiled opening =
    record { ended = opening-fn.ended; clauses = opening-fn.clauses; code = opening-code.code; name = opening-code.name }
compiled day = record { ended = day-fn.ended; clauses = day-fn.clauses; code = day-code.code; name = day-code.name }
compiled closing =
    record { ended = closing-fn.ended; clauses = closing-fn.clauses; code = closing-code.code; name = closing-code.name }

-- ---- their calls

-- A call as the logic has it: its lifetimes, its arguments, its result, and what its parameters refer to at exit.
pub record CallOf (f : Compiled) : Type 0 where
  pub κs : Lfts f.ended.signature.lifetimes
  pub arguments : Args f.ended.signature κs
  pub result : Res f.ended.signature κs
  pub exit : AtExit f.ended κs

-- what was asked, and by the reply what came back: document 01's answer is read off the outcome
abbrev pub replied : (asked : Asked) → Reply (Returned asked) → (after : List ℕ) → Made
replied asked reply after =
    record { asked = asked; answer = answer_of (figures_of asked) reply.outcome; period = reply.period; after = after }

-- The period that a call was given, and the call in plain values: which of its arguments is which.
abbrev pub in_plain : (f : Method) → CallOf (compiled f) → Period × Made
in_plain opening c =
    let (self, (n, (k, (groups, (firsts, (lasts, _)))))) = c.arguments in
    (self, replied (Asked.opening (brought n k groups.now firsts.now lasts.now)) c.result [])
in_plain day c =
    let (self, (d, (out, _))) = c.arguments in
    let (_, (_, (after, _))) = c.exit in
    (self, replied (Asked.day (day_brought d.now) out.now) c.result after.now)
in_plain closing c =
    let (self, (out, _)) = c.arguments in
    let (_, (after, _)) = c.exit in
    (self, replied (Asked.closing out.now) c.result after.now)

-- a call of any of them
pub record Called : Type 0 where
  pub function : Method
  pub call : CallOf (compiled function)

abbrev pub given : Called → Period
given c = (in_plain c.function c.call).0

abbrev pub made_of : Called → Made
made_of c = (in_plain c.function c.call).1

-- the `ensures` of clauses C holds of a call; `Upholds` says that there is no choice of a ghost
abbrev pub EnsuredBy : {M : Type 1} (𝓤 : Ura M) {f : Compiled} (c : CallOf f) → ClausesAt 𝓤 f.ended c.κs → Type 1
EnsuredBy 𝓤 c C = (ghost : C.ghost) × Ensured 𝓤 (C.ensures ghost c.result c.exit)

module _ {M : Type 1} {𝓤 : Ura M} (𝓛 : Logic 𝓤) (mem : Memory → SProp 𝓤) (run : Routine → Fun 𝓤) where
  -- its own `ensures` holds of a call, as generated from the code
  abbrev pub AsEnsured : {f : Compiled} → CallOf f → Type 1
  AsEnsured {f} c = EnsuredBy 𝓤 c (f.clauses 𝓛 mem run c.κs c.arguments)

  -- "where each gets the period that the one before returned": compiled calls from period p on, each of which meets its `ensures`
  abbrev pub Linked : Period → List Called → Type 1
  Linked p [] = Unit {1}
  Linked p (c ∷ cs) = (given c ≡ p) × AsEnsured c.call × Linked (made_of c).period cs

  -- such a list from a period that `fresh` returned, by `fresh`'s own `ensures`
  pub record FromFresh (cs : List Called) : Type 1 where
    pub first : CallOf fresh
    pub kept : AsEnsured first
    pub linked : Linked first.result cs

-- ---- the claim

-- What is claimed of a compiled function.
pub record MeetsContract (f : Compiled) : Type 2 where
  -- What its name means, in any environment that has its code, ends, on every call that meets its `requires`, without a panic, and does what
  -- its clauses say (or stops the process, where the model allows it a status to stop at).
  pub met :
      {M : Type 1} {𝓤 : Ura M} (𝓛 : Logic 𝓤) (𝓜 : Model 𝓤 𝓛.H) (𝓡 : Running 𝓤 𝓛.H 𝓜) → Wired 𝓡.env f.code
      → Meets-spec 𝓛 f.ended.signature (𝓡.run (𝓡.env f.name)) (closing-of 𝓛 f.ended (f.clauses 𝓛 𝓜.mem 𝓡.returns))
  -- So, where no status is allowed and no other thread runs: a call from a memory in which its arguments stand ends, with a result and exits of which its
  -- `ensures` holds.
  pub returns :
      {M : Type 1} {𝓤 : Ura M} (𝓛 : Logic 𝓤) (𝓜 : Model 𝓤 𝓛.H) (𝓡 : Running 𝓤 𝓛.H 𝓜) → Wired 𝓡.env f.code
      → Returns 𝓛 𝓜 𝓡 f.ended (f.clauses 𝓛) f.name
  -- And so of the machine on any program that has its code and that of all that it calls.
  pub on_machine :
      {M : Type 1} {𝓤 : Ura M} (𝓛 : Logic 𝓤) (𝓜 : Model 𝓤 𝓛.H) (𝓡 : Running 𝓤 𝓛.H 𝓜) (P : Program) → Has (in_program P) f.code
      → Returns 𝓛 𝓜 (within 𝓤 𝓛.H 𝓜 𝓡 (machine P)) f.ended (f.clauses 𝓛) f.name

-- What is claimed of a function of the outside. `Says` is what its `ensures` says of a call.
pub record Upholds (f : Compiled) (Says : CallOf f → Type 0) : Type 2 where
  pub contract : MeetsContract f
  -- Its clauses, whole: no ghost, nothing required, and `Says` ensured.
  pub clauses :
      {M : Type 1} {𝓤 : Ura M} (𝓛 : Logic 𝓤) (mem : Memory → SProp 𝓤) (run : Routine → Fun 𝓤)
      (κs : Lfts f.ended.signature.lifetimes) (a : Args f.ended.signature κs)
      → f.clauses 𝓛 mem run κs a
      ≡ record {
        ghost = Unit {0};
        requires = λ _. (connectives 𝓤).⊤ₛ;
        ensures = λ _ r e. fact 𝓤 (Says (record { κs = κs; arguments = a; result = r; exit = e }));
      }

-- `Meets`, of a call in plain values
abbrev pub Promised : (f : Method) → CallOf (compiled f) → Type 0
Promised f c =
    let (p, m) = in_plain f c in
    Meets p m.asked m.answer m.period m.after

pub record Demand3 : Type 2 where
  -- demand 3 of every list of calls from a fresh period, each with the period that the one before returned
  pub every_list : (cs : List Made) → MadeOn fresh_period cs → Holds start cs
  -- "Where the last call is an accepted closing": `Covers`, of the register kept from all of them. Accepted means by the register; by
  -- `every_list` the closing then says so.
  pub last_closing :
      (cs : List Made) (c : Made) (out : List ℕ) → c.asked ≡ Asked.closing out → MadeOn fresh_period (cs ++ (c ∷ []))
      → refusal (register_after start cs) (call_of c.asked) ≡ clear
      → Covers (register_after start (cs ++ (c ∷ []))) c.answer c.after
  -- It is not about nothing: calls with any arguments can be made, of numbers that fit 64 bits.
  pub every_list_can_be_made : (arguments : List Asked) → CanBeMade fresh_period arguments
  pub fresh_narrow : Narrow fresh_period
  -- It is about the program: `fresh` ensures the fresh period, and a call `Meets`.
  pub fresh_upholds : Upholds fresh (λ c. c.result ≡ fresh_period)
  pub calls_uphold : (f : Method) → Upholds (compiled f) (Promised f)
  -- So demand 3 holds of every list of compiled calls from `fresh` on, in every model of the logic; and where the last of them is an
  -- accepted closing, `Covers`.
  pub compiled_lists :
      {M : Type 1} {𝓤 : Ura M} (𝓛 : Logic 𝓤) (mem : Memory → SProp 𝓤) (run : Routine → Fun 𝓤)
      (cs : List Called) → FromFresh 𝓛 mem run cs → Holds start (map made_of cs)
  pub compiled_closing :
      {M : Type 1} {𝓤 : Ura M} (𝓛 : Logic 𝓤) (mem : Memory → SProp 𝓤) (run : Routine → Fun 𝓤)
      (cs : List Called) (c : Called) (out : List ℕ) → (made_of c).asked ≡ Asked.closing out → FromFresh 𝓛 mem run (cs ++ (c ∷ []))
      → refusal (register_after start (map made_of cs)) (call_of (made_of c).asked) ≡ clear
      → Covers (register_after start (map made_of (cs ++ (c ∷ [])))) (made_of c).answer (made_of c).after
