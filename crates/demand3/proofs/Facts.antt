-- What a clause of the logic states as a fact is true where the clause holds. The logic keeps only that there is a proof, so that the fact
-- must be a proposition; what a contract says of a call is one, being equations between numbers, lists, answers and periods.
use mathlib.Core.Path.{◌≡◌, refl, ap}
use mathlib.Core.Logic.{∥∥₁_elim}
use mathlib.Core.HProp.{HProp, HProp-ext}
use mathlib.Core.List.{List, [], ◌∷◌, is_set}
use Prim.Native.Nat.{ℕ, zero, suc}
use native.Mathlib.Nat.{ℕ_set}
use seplogic.Ra.Ura.{Ura}
use seplogic.Bi.Sat.{Sat}
use base.Logic.{SProp, Sat_exists, emp}
use base.Stored.{Coded-set}
use ghost.Sets.{retract_set}
use contract.Monad.{fact}
use denote.Signature.{type_at}
use Rattle.methodology.specs.declared.Opening.{Opening}
use Rattle.methodology.specs.Register.{Answer, accepted, refused, refused_at}
use Rattle.period.specs.declared.Period.{Period}
use Rattle.period.specs.Calls.{OpeningMeets}
use Rattle.period.specs.contracts.Period.fresh as fresh-fn
use Rattle.demand3.specs.Made.{Asked, Meets}

-- An assertion of the logic holds, of some resource: the least that can be meant by it.
abbrev pub Ensured : {M : Type 1} (𝓤 : Ura M) → SProp 𝓤 → Type 1
Ensured 𝓤 P = Sat 𝓤.op P

pub fact_holds : {M : Type 1} (𝓤 : Ura M) (P : Type 0) → IsProp P → Ensured 𝓤 (fact 𝓤 P) → P
fact_holds 𝓤 P prop s = ∥∥₁_elim (Sat_exists 𝓤 (λ (_ : P). emp 𝓤) s) prop (λ t. t.0)

list_set : IsSet (List ℕ)
list_set = is_set ℕ_set

-- every type of the program has a code in the logic, one to one, and so is a set
pub period_set : IsSet Period
period_set = Coded-set (type_at (fresh-fn.signature).result tt).coded

-- an answer as a list of numbers, and back
abbrev numbered : Answer → List ℕ
numbered (accepted figures) = 0 ∷ figures
numbered (refused number) = 1 ∷ number ∷ []
numbered (refused_at number index) = 2 ∷ number ∷ index ∷ []

abbrev answered : List ℕ → Answer
answered [] = accepted []
answered (zero ∷ figures) = accepted figures
answered (suc _ ∷ []) = accepted []
answered (suc _ ∷ number ∷ []) = refused number
answered (suc _ ∷ number ∷ index ∷ _) = refused_at number index

back : (a : Answer) → answered (numbered a) ≡ a
back (accepted figures) = refl
back (refused number) = refl
back (refused_at number index) = refl

answer_set : IsSet Answer
answer_set = retract_set numbered answered back list_set

pub opening_prop : (p : Period) (o : Opening) (said : Answer) (left : Period) → IsProp (OpeningMeets p o said left)
opening_prop p o said left x y =
    λ i. record { answer = answer_set _ _ x.answer y.answer i; period = period_set _ _ x.period y.period i }

pub meets_prop : (p : Period) (a : Asked) (said : Answer) (left : Period) (after : List ℕ) → IsProp (Meets p a said left after)
meets_prop p (Asked.opening o) said left after x y = λ i. (opening_prop p o said left x.0 y.0 i, list_set _ _ x.1 y.1 i)
meets_prop p (Asked.day d out) said left after x y =
    λ i. record {
      answer = answer_set _ _ x.answer y.answer i;
      period = period_set _ _ x.period y.period i;
      buffer = list_set _ _ x.buffer y.buffer i;
    }
meets_prop p (Asked.closing out) said left after x y =
    λ i. record {
      answer = answer_set _ _ x.answer y.answer i;
      period = period_set _ _ x.period y.period i;
      buffer = list_set _ _ x.buffer y.buffer i;
    }

-- The contract of a call that is lent no buffer says no less than `Meets`, which adds that none is left.
pub no_buffer : {P : Type 0} → IsProp P → P ≡ (P × (◌≡◌ {A = List ℕ} [] []))
no_buffer {P} prop =
    ap (λ (Q : HProp {0}). Q.0) (HProp-ext (P, prop) (P × (◌≡◌ {A = List ℕ} [] []), both) (λ x. (x, refl)) (λ x. x.0))
  where
    both : IsProp (P × (◌≡◌ {A = List ℕ} [] []))
    both x y = λ i. (prop x.0 y.0 i, list_set _ _ x.1 y.1 i)
