-- Demand 3 of every list of calls: by the calls one after another, each of which the register follows.
use mathlib.Core.Path.{◌≡◌, refl, sym, ap, subst, ◌∙◌}
use mathlib.Core.List.{List, [], ◌∷◌, ◌++◌}
use Prim.Native.Nat.{ℕ, ◌<◌}
use native.Mathlib.Omega.{arith}
use lib.ListN.{length}
use Rattle.std.specs.Prelude.{Option, Some, None, Ok, Err}
use Rattle.methodology.specs.declared.Opening.{Opening}
use Rattle.methodology.specs.RowNumbers.{row_number, row_index}
use Rattle.methodology.specs.Refusals.{Verdict, clear}
use Rattle.methodology.specs.Register.{Call, Register, refusal, accept, if_accepted, step, returned, written, Answer, accepted, refused_with, answer_by, answer, buffer}
use Rattle.methodology.proofs.Passed.{step_clear, either}
use Rattle.period.specs.declared.Period.{Period}
use Rattle.period.specs.Calls.{held_by}
use Rattle.period.specs.Follows.{Follows}
use Rattle.period.proofs.InRange.{held_opened, closable}
use Rattle.period.proofs.Simulation.{held_by_lem, closing_row_lem, opening_follows, day_follows, closing_follows}
use Rattle.demand3.specs.Made.{Asked, Made, call_of, Meets, MadeOn}
use Rattle.demand3.specs.Demand3.{Agrees, Covers, AtClosing, Holds, register_after, by_answer, from_answers}
use Rattle.demand3.proofs.Covering.{covers}

-- an opening is lent no buffer
nothing_written : (g : Register) (o : Opening) → [] ≡ buffer g (Call.opening o) []
unfolding buffer written
nothing_written g o = either (λ (l : List ℕ). [] ≡ l) (refusal g (Call.opening o)) [] [] (λ e. refl) refl

-- a period that is closed was opened, and so has members
some_members : {g : Register} {p : Period} → Follows g p → (room : ℕ) → refusal g (Call.closing room) ≡ clear → 0 < (step g (Call.closing room)).held.n
unfolding accept
some_members {g} {p} f room e =
    let limits = held_opened (closable p room (closing_row_lem f room ∙ e)).in_range_lem in
    let left = ap (λ (g : Register). g.held) (step_clear g (Call.closing room) e) in
    let held : held_by p ≡ (step g (Call.closing room)).held = held_by_lem f ∙ sym left in
    subst (λ (o : Opening). 0 < o.n) held (omega (arith, limits.members_some))

closes : {g : Register} {p : Period} → Follows g p → (c : Made) → Agrees g c → AtClosing g c
unfolding answer buffer
closes {g} f c a out is e =
    let k = Call.closing (length out) in
    let passes : refusal g k ≡ clear = rw is at e in
    let said : c.answer ≡ accepted (returned (step g k) k) = a.answer ∙ rw (is, passes) in
    let wrote : c.after ≡ written (step g k) k = a.buffer ∙ rw (is, passes) in
    rw (said, wrote, is) (covers (step g k) (length out) (some_members f (length out) passes))

-- one call, which the register follows
pub agrees : {g : Register} {p : Period} → Follows g p → (a : Asked) (said : Answer) (left : Period) (after : List ℕ) → Meets p a said left after
    → Follows (step g (call_of a)) left × Agrees g (record { asked = a; answer = said; period = left; after = after })
agrees {g} f (Asked.opening o) said left after (m, none) =
    let (f', e) = opening_follows f m in
    (f', record { answer = e; buffer = none ∙ nothing_written g o; period = f'.is })
agrees f (Asked.day d out) said left after m =
    let (f', e, w) = day_follows f m in
    (f', record { answer = e; buffer = w; period = f'.is })
agrees f (Asked.closing out) said left after m =
    let (f', e, w) = closing_follows f m in
    (f', record { answer = e; buffer = w; period = f'.is })

pub one : {g : Register} {p : Period} → Follows g p → (c : Made) → Meets p c.asked c.answer c.period c.after
    → Follows (step g (call_of c.asked)) c.period × Agrees g c × AtClosing g c
one {g} f c m =
    let (f', a) = agrees f c.asked c.answer c.period c.after m in
    (f', a, closes f c a)

pub holds : {g : Register} {p : Period} → Follows g p → (cs : List Made) → MadeOn p cs → Holds g cs
holds f [] m = tt
holds {g = g} {p = p} f (c ∷ cs) (m, ms) =
    let (f', a, k) = one f c m in
    (a, k, holds {g = step g (call_of c.asked)} {p = c.period} f' cs ms)

-- where the last call is an accepted closing
pub last_closing : {g : Register} {p : Period} → Follows g p → (cs : List Made) (c : Made) (out : List ℕ) → c.asked ≡ Asked.closing out
    → MadeOn p (cs ++ (c ∷ [])) → refusal (register_after g cs) (call_of c.asked) ≡ clear
    → Covers (register_after g (cs ++ (c ∷ []))) c.answer c.after
last_closing f [] c out is (m, _) e = (one f c m).2 out is e
last_closing {g = g} {p = p} f (b ∷ cs) c out is (m, ms) e =
    last_closing {g = step g (call_of b.asked)} {p = b.period} (one f b m).0 cs c out is ms e

-- demand 3 of the calls after the first ones, so that the last of a list agrees with the register that the others have left
pub holds_from : (g : Register) (cs ds : List Made) → Holds g (cs ++ ds) → Holds (register_after g cs) ds
holds_from g [] ds h = h
holds_from g (b ∷ cs) ds (_, _, h) = holds_from (step g (call_of b.asked)) cs ds h

pub last_agrees : (g : Register) (cs : List Made) (c : Made) → Holds g (cs ++ (c ∷ [])) → Agrees (register_after g cs) c
last_agrees g cs c h = (holds_from g cs (c ∷ []) h).0

-- What a caller keeps from the answers is what the register gives, if that is so of each accepted call.
module _ {X : Type 0} (note : Asked → (figures : List ℕ) → X → X) (of : Register → X)
    (accepted-so : (g : Register) (a : Asked) → note a (returned (accept g (call_of a)) (call_of a)) (of g) ≡ of (accept g (call_of a))) where
  by_refused : (a : Asked) (number : ℕ) (index : Option ℕ) (x : X) → by_answer note a (refused_with number index) x ≡ x
  by_refused a number None x = refl
  by_refused a number (Some index) x = refl

  by_row : (g : Register) (a : Asked) (x : Verdict)
      → let after = if_accepted x (accept g (call_of a)) g in
      by_answer note a (answer_by x (returned after (call_of a))) (of g) ≡ of after
  by_row g a (Ok _) = accepted-so g a
  by_row g a (Err met) = by_refused a (row_number met) (row_index met) (of g)

  by_one : (g : Register) (c : Made) → Agrees g c → by_answer note c.asked c.answer (of g) ≡ of (step g (call_of c.asked))
  unfolding step answer
  by_one g c agreed = ap (λ (a : Answer). by_answer note c.asked a (of g)) agreed.answer ∙ by_row g c.asked (refusal g (call_of c.asked))

  pub from_answers_lem : (g : Register) (cs ds : List Made) → Holds g (cs ++ ds) → from_answers note (of g) cs ≡ of (register_after g cs)
  from_answers_lem g [] ds h = refl
  from_answers_lem g (c ∷ cs) ds (agreed, _, h) =
      ap (λ (x : X). from_answers note x cs) (by_one g c agreed) ∙ from_answers_lem (step g (call_of c.asked)) cs ds h
