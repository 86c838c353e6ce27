-- The proof of the claim of Demand3.antt: each compiled function upholds what it ensures, and compiled calls are calls that were made.
use mathlib.Core.Path.{◌≡◌, refl, subst}
use mathlib.Core.List.{List, [], ◌∷◌, ◌++◌, map, map-append}
use seplogic.Ra.Ura.{Ura}
use base.Logic.{SProp}
use prog.Memory.{Memory}
use prog.Model.{Model}
use prog.Routine.{Routine, machine}
use prog.Wired.{Wired}
use prog.Linked.{in_program, machine-Follows, Has-Wired}
use denote.Triple.Spec.{Meets as Meets-spec}
use denote.Triple.Clauses.{closing as closing-of}
use types.Logic.{Logic}
use contract.Monad.{Fun, fact}
use contract.Notation.{connectives}
use Rattle.methodology.specs.Register.{start}
use Rattle.period.specs.declared.Period.{Period}
use Rattle.period.specs.Reading.{brought, answer_of, opening_returned}
use Rattle.period.specs.Calls.{fresh_period}
use Rattle.period.proofs.Period.fresh.Met as fresh-proved
use Rattle.period.proofs.Period.opening.Met as opening-proved
use Rattle.period.proofs.Period.day.Met as day-proved
use Rattle.period.proofs.Period.closing.Met as closing-proved
use Rattle.period.proofs.Simulation.{starts}
use Rattle.demand3.specs.Made.{Meets, MadeOn}
use Rattle.demand3.specs.Demand3.{Holds}
use Rattle.demand3.proofs.EveryList.{holds, last_closing}
use Rattle.demand3.proofs.Fitting.{narrow_fresh, can_be_made}
use Rattle.demand3.proofs.Facts.{fact_holds, period_set, opening_prop, meets_prop, no_buffer}
use Rattle.demand3.proofs.Returns.{returns}
use contract.Running.{Running, strict, within}
use Rattle.demand3.proofs.Demand3.{Compiled, fresh, Method, opening, day, closing, compiled, CallOf, Called, given, made_of, EnsuredBy, AsEnsured}
use Rattle.demand3.proofs.Demand3.{Linked, FromFresh, MeetsContract, Upholds, Promised, Demand3}

-- What is claimed of a function follows from its met contract. The machine on a program is an environment that has what the program has.
pub meets_contract :
    (f : Compiled)
    → ((M : Type 1) (𝓤 : Ura M) (𝓛 : Logic 𝓤) (𝓜 : Model 𝓤 𝓛.H) (𝓡 : Running 𝓤 𝓛.H 𝓜) → Wired 𝓡.env f.code
    → Meets-spec 𝓛 f.ended.signature (𝓡.run (𝓡.env f.name)) (closing-of 𝓛 f.ended (f.clauses 𝓛 𝓜.mem 𝓡.returns)))
    → MeetsContract f
meets_contract f met =
    record {
      met = λ {M = M} {𝓤 = 𝓤} 𝓛 𝓜 𝓡 w. met M 𝓤 𝓛 𝓜 𝓡 w;
      returns = λ {M = M} {𝓤 = 𝓤} 𝓛 𝓜 𝓡 w. returns 𝓛 𝓜 𝓡 f.ended (f.clauses 𝓛) f.name (met M 𝓤 𝓛 𝓜 (strict 𝓤 𝓛.H 𝓜 𝓡) w);
      on_machine =
          λ {M = M} {𝓤 = 𝓤} 𝓛 𝓜 𝓡 P has.
          let there = within 𝓤 𝓛.H 𝓜 𝓡 (machine P) in
          let wired = Has-Wired (in_program P) (machine P) (machine-Follows P) f.code has in
          returns 𝓛 𝓜 there f.ended (f.clauses 𝓛) f.name (met M 𝓤 𝓛 𝓜 (strict 𝓤 𝓛.H 𝓜 there) wired);
    }

fresh_does : Upholds fresh (λ c. c.result ≡ fresh_period)
fresh_does =
    record {
      contract = meets_contract fresh (λ M 𝓤 𝓛 𝓜 𝓡 w. fresh-proved.met 𝓤 𝓛 𝓜 𝓡 w);
      clauses = λ 𝓛 mem run κs a. refl;
    }

-- Each clause holds by computation but for the opening's, to which `Meets` adds that it leaves no buffer: `no_buffer` says that this adds nothing.
upholds : (f : Method) → Upholds (compiled f) (Promised f)
upholds opening =
    record {
      contract = meets_contract (compiled opening) (λ M 𝓤 𝓛 𝓜 𝓡 w. opening-proved.met 𝓤 𝓛 𝓜 𝓡 w);
      clauses =
          λ {𝓤 = 𝓤} 𝓛 mem run κs (self, (n, (k, (groups, (firsts, (lasts, _)))))) i.
          let says = λ (r : _). opening_prop self (brought n k groups.now firsts.now lasts.now) (answer_of opening_returned r.outcome) r.period in
          record { ghost = Unit {0}; requires = λ _. (connectives 𝓤).⊤ₛ; ensures = λ _ r e. fact 𝓤 (no_buffer (says r) i) };
    }
upholds day =
    record {
      contract = meets_contract (compiled day) (λ M 𝓤 𝓛 𝓜 𝓡 w. day-proved.met 𝓤 𝓛 𝓜 𝓡 w);
      clauses = λ 𝓛 mem run κs a. refl;
    }
upholds closing =
    record {
      contract = meets_contract (compiled closing) (λ M 𝓤 𝓛 𝓜 𝓡 w. closing-proved.met 𝓤 𝓛 𝓜 𝓡 w);
      clauses = λ 𝓛 mem run κs a. refl;
    }

-- compiled calls are calls that were made
module _ {M : Type 1} {𝓤 : Ura M} (𝓛 : Logic 𝓤) (mem : Memory → SProp 𝓤) (run : Routine → Fun 𝓤) where
  kept_says : {f : Compiled} {Says : CallOf f → Type 0} → Upholds f Says → (c : CallOf f) → IsProp (Says c) → AsEnsured 𝓛 mem run c → Says c
  kept_says {f} {Says} u c prop k =
      fact_holds 𝓤 (Says c) prop (subst (EnsuredBy 𝓤 c) (u.clauses 𝓛 mem run c.κs c.arguments) k).1

  linked_made : (p : Period) (cs : List Called) → Linked 𝓛 mem run p cs → MadeOn p (map made_of cs)
  linked_made p [] l = tt
  linked_made p (c ∷ cs) (g, k, l) =
      let m = made_of c in
      let met = kept_says (upholds c.function) c.call (meets_prop (given c) m.asked m.answer m.period m.after) k in
      (subst (λ (q : Period). Meets q m.asked m.answer m.period m.after) g met, linked_made m.period cs l)

  fresh_made : (cs : List Called) → FromFresh 𝓛 mem run cs → MadeOn fresh_period (map made_of cs)
  fresh_made cs f =
      let is-fresh = kept_says fresh_does f.first (period_set f.first.result fresh_period) f.kept in
      subst (λ (p : Period). MadeOn p (map made_of cs)) is-fresh (linked_made f.first.result cs f.linked)

pub demand_3 : Demand3
demand_3 =
    record {
      every_list = holds starts;
      last_closing = last_closing starts;
      every_list_can_be_made = can_be_made narrow_fresh;
      fresh_narrow = narrow_fresh;
      fresh_upholds = fresh_does;
      calls_uphold = upholds;
      compiled_lists = λ 𝓛 mem run cs f. holds starts (map made_of cs) (fresh_made 𝓛 mem run cs f);
      compiled_closing =
          λ 𝓛 mem run cs c out is f e.
          let split = map-append made_of cs (c ∷ []) in
          let made = subst (MadeOn fresh_period) split (fresh_made 𝓛 mem run (cs ++ (c ∷ [])) f) in
          rw split (last_closing starts (map made_of cs) (made_of c) out is made e);
    }

-- of compiled calls, the first ones and those after them
pub compiled_holds : {M : Type 1} {𝓤 : Ura M} (𝓛 : Logic 𝓤) (mem : Memory → SProp 𝓤) (run : Routine → Fun 𝓤)
    (cs ds : List Called) → FromFresh 𝓛 mem run (cs ++ ds) → Holds start (map made_of cs ++ map made_of ds)
compiled_holds 𝓛 mem run cs ds from = subst (Holds start) (map-append made_of cs ds) (demand_3.compiled_lists 𝓛 mem run (cs ++ ds) from)
