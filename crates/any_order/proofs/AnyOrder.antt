-- The proof of the claim of specs/AnyOrder.antt: what is shown of the definitions goes over to calls by what their `ensures` says. The logic keeps
-- of a fact only that it has a proof, and an equation between numbers has but one.
use mathlib.Core.Path.{◌≡◌, refl, sym, ap₂, ◌∙◌}
use Prim.Native.Nat.{ℕ, ◌≤◌}
use lib.IntN.{ℤ, nat_abs, ℤ_set}
use seplogic.Ra.Ura.{Ura}
use seplogic.Bi.Sat
use base.Logic.{SProp, fst∗}
use prog.Memory.{Memory}
use prog.Routine.{Routine}
use types.Logic.{Logic}
use contract.Monad.{Fun, fact}
use Rattle.methodology.specs.Member.{member_eul}
use Rattle.exposure.specs.declared.account.Scenario.{Scenario}
use Rattle.exposure.specs.Scenario.{eul_by}
use Rattle.exposure.specs.AccountsIn.{accounts_in, most_eul}
use Rattle.exposure.proofs.accounts.Accounts.eul.Met as eul-proved
use Rattle.demand3.proofs.Demand3.{CallOf, AsEnsured}
use Rattle.demand3.proofs.Facts.{fact_holds}
use Rattle.demand3.proofs.Demand3Proved.{meets_contract}
use Rattle.any_order.specs.AnyOrder.{eul_step, accounts_lent, scenario_of, AnyOrder}
use Rattle.any_order.proofs.SameEul.{in_any_order, same_eul, same_day}
use Rattle.any_order.proofs.EveryOrder.{every_order}

-- what a call is asked for
abbrev eul_due : CallOf eul_step → ℤ
eul_due c = let a = accounts_lent c in member_eul (eul_by a.k (scenario_of c)) (accounts_in a)

-- a call that is as ensured returns it
returns_eul : {M : Type 1} {𝓤 : Ura M} (𝓛 : Logic 𝓤) (mem : Memory → SProp 𝓤) (run : Routine → Fun 𝓤)
    (c : CallOf eul_step) → AsEnsured 𝓛 mem run c → c.result ≡ eul_due c
returns_eul {𝓤 = 𝓤} 𝓛 mem run c (_, e) =
    let is = c.result ≡ eul_due c in
    fact_holds 𝓤 is (ℤ_set _ _) (Sat.mono 𝓤.op (fst∗ 𝓤 (fact 𝓤 is) (fact 𝓤 (nat_abs c.result ≤ most_eul))) e)

pub any_order : AnyOrder
any_order =
    record {
      in_any_order = in_any_order;
      same_eul = same_eul;
      same_day = λ o xs ys same. same_day xs ys same o;
      step_meets = meets_contract eul_step (λ M 𝓤 𝓛 𝓜 𝓡 w. eul-proved.met 𝓤 𝓛 𝓜 𝓡 w);
      step_clauses = λ 𝓛 mem run κs a. refl;
      two_calls =
          λ 𝓛 mem run c d ec ed k s p.
          let in_c = accounts_in (accounts_lent c) in
          let in_d = accounts_in (accounts_lent d) in
          let alike = ap₂ (λ (k : ℕ) (s : Scenario). member_eul (eul_by k s) in_d) k s in
          returns_eul 𝓛 mem run c ec ∙ same_eul (accounts_lent c).k (scenario_of c) in_c in_d p ∙ alike ∙ sym (returns_eul 𝓛 mem run d ed);
      every_order = every_order;
    }
