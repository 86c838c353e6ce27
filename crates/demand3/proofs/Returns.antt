-- What a met contract says of the machine, of any function: called from a memory in which its arguments stand, what its name means in an
-- environment that has its code ends, and there are a result and exits of which its `ensures` holds. It is the logic's adequacy, where no
-- status of the process is allowed and no other thread runs, taken to what an `ensures` speaks of.
use mathlib.Core.Logic.{∥∥₁_prop, ∥∥₁_elim, ∥∥₁_map}
use seplogic.Ra.Ura.{Ura}
use seplogic.Bi.Sat
use mir.Val.{Val}
use base.Logic.{SProp, ent, sep, ex, via, fst∗, snd∗, mono_l, comm∗, assoc∗}
use prog.Memory.{Memory}
use prog.Model.{Model}
use prog.Routine.{Routine, Callee, ends}
use types.Logic.{Logic, sem}
use contract.Monad.{Fun}
use contract.Running.{Running, tables, strict}
use contract.Adequate.{Satisfies, sat_weaken, sat_⇛, sat_ex∗}
use denote.Triple.Entry.{Res, on_entry}
use denote.Triple.Bound.{Bound, passed}
use denote.Triple.Spec.{Back, triple_of, Meets}
use denote.Triple.Clauses.{Ended, ClausesAt, Clauses, Lasts, at_exit, lasts, ensured, closing}
use denote.Triple.Adequate.{adequate}
use Rattle.demand3.proofs.Facts.{Ensured}

-- in one model, of the function called `name`
module _ {M : Type 1} {𝓤 : Ura M} (𝓛 : Logic 𝓤) (𝓜 : Model 𝓤 𝓛.H) (𝓡 : Running 𝓤 𝓛.H 𝓜)
    (T : Ended) (clauses : (Memory → SProp 𝓤) → (Routine → Fun 𝓤) → Clauses 𝓤 T) (name : Callee) where
  open 𝓛 use {H}

  infixr 35 ◌∗◌
  abbrev ◌∗◌ : SProp 𝓤 → SProp 𝓤 → SProp 𝓤
  P ∗ Q = sep 𝓤 P Q

  abbrev of : Clauses 𝓤 T
  of = clauses 𝓜.mem 𝓡.returns

  -- x has the call's lifetimes κs, their shares qs, its arguments a and their machine values vs. F is whatever else there is, and comes
  -- back untouched. w has what the call's references hold at exit: it stands in the memory after the call, and the `ensures` speaks of it.
  abbrev pub Returns : Type 2
  Returns =
      (x : Bound 𝓛 T.signature) →
      let (κs, qs, _, a, vs) = x in
      (g : (of κs a).ghost) (σ : Memory) (F : SProp 𝓤)
      → Satisfies 𝓤 H 𝓜 σ ((on_entry 𝓛 T.signature κs qs a vs ∗ (of κs a).requires g) ∗ F)
      → ∥ ((v : Val) × (σ' : Memory) × ends (𝓡.env name) (passed 𝓛 T.signature x) σ v σ'
      × (r : Res T.signature κs) × (w : Lasts T κs a)
      × Satisfies 𝓤 H 𝓜 σ' (sem 𝓛 (lasts T κs a w) ∗ (Back 𝓛 T.signature x v r ∗ F))
      × Ensured 𝓤 ((of κs a).ensures g r (at_exit T κs a w))) ∥₁

  turned : (P Q F : SProp 𝓤) → ent 𝓤 ((P ∗ Q) ∗ F) (Q ∗ (P ∗ F))
  turned P Q F = via 𝓤 ((Q ∗ P) ∗ F) (mono_l 𝓤 F (comm∗ 𝓤 P Q)) (assoc∗ 𝓤 Q P F)

  inner : (P Q R F : SProp 𝓤) → ent 𝓤 (P ∗ ((Q ∗ R) ∗ F)) R
  inner P Q R F = via 𝓤 ((Q ∗ R) ∗ F) (snd∗ 𝓤 P ((Q ∗ R) ∗ F)) (via 𝓤 (Q ∗ R) (fst∗ 𝓤 (Q ∗ R) F) (snd∗ 𝓤 Q R))

  pub returns : Meets 𝓛 T.signature (𝓡.returns (𝓡.env name)) (closing 𝓛 T of) → Returns
  unfolding Satisfies
  returns met x g σ F s =
      ∥∥₁_elim (adequate 𝓤 H 𝓜 (tables 𝓤 H 𝓜 (strict 𝓤 H 𝓜 𝓡) 𝓡.env) (λ s h. h, tt) name (triple_of 𝓛 T.signature (closing 𝓛 T of)) met (x, g) σ F s) ∥∥₁_prop
      (λ (n, v, σ', ended, s₁).
      ∥∥₁_elim (sat_ex∗ 𝓤 H 𝓜 σ' (λ r. back v r ∗ left r) F (sat_⇛ 𝓤 H 𝓜 σ' (ex 𝓤 (λ r. back v r ∗ left r)) F s₁)) ∥∥₁_prop
      (λ (r, s₂).
      ∥∥₁_map (sat_ex∗ 𝓤 H 𝓜 σ' (at r) (back v r ∗ F) (sat_weaken 𝓤 H 𝓜 σ' (turned (back v r) (left r) F) s₂))
      (λ (w, s₃).
      let e = here.ensures g r (at_exit T x.0 x.3 w) in
      let told = Sat.mono 𝓤.op (inner (𝓜.mem σ') (last w) e (back v r ∗ F)) s₃ in
      (v, σ', (n, ended), r, w, sat_weaken 𝓤 H 𝓜 σ' (mono_l 𝓤 (back v r ∗ F) (fst∗ 𝓤 (last w) e)) s₃, told))))
    where
      here : ClausesAt 𝓤 T x.0
      here = of x.0 x.3

      back : Val → Res T.signature x.0 → SProp 𝓤
      back v r = Back 𝓛 T.signature x v r

      left : Res T.signature x.0 → SProp 𝓤
      left r = ensured 𝓛 T of x.0 x.3 g r

      last : Lasts T x.0 x.3 → SProp 𝓤
      last w = sem 𝓛 (lasts T x.0 x.3 w)

      at : Res T.signature x.0 → Lasts T x.0 x.3 → SProp 𝓤
      at r w = last w ∗ here.ensures g r (at_exit T x.0 x.3 w)
