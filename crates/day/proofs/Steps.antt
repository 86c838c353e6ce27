-- A day's turn and the days after it, from what the functions that it calls have told: each law is one way out of a function.
use mathlib.Core.Path.{◌≡◌, sym, ap, subst, ◌∙◌}
use mathlib.Core.List.{List, ◌++◌, append_assoc}
use Prim.Native.Nat.{ℕ}
use Rattle.std.specs.Prelude.{Option}
use Rattle.methodology.specs.Register.{Register}
use Rattle.report.specs.declared.Printer.{Printer}
use Rattle.report.specs.Prints.{Prints}
use Rattle.report.proofs.Laws.{prints_then}
use Rattle.day.specs.declared.Progress.{Progress}
use Rattle.day.specs.Turns.{days_due, Stands, GoesOn, TurnMeets}

pub same_due : {due due' : List ℕ} (p q : Printer) (r : Option Progress) → due ≡ due' → TurnMeets due' p q r → TurnMeets due p q r
same_due p q r e m = subst (λ (x : List ℕ). TurnMeets x p q r) (sym e) m

module _ {due : List ℕ} {p q r : Printer} {from : Progress} (m : GoesOn due p q from) where
  -- the turn from there goes on
  pub turn_more : {to : Progress} → ((g : Register) → Stands g from → GoesOn (days_due from.rest.now from.line g) q r to) → GoesOn due p r to
  turn_more f =
      let n = f m.g m.stands in
      record {
        g = n.g;
        stands = n.stands;
        lines = m.lines ++ n.lines;
        printed = prints_then m.printed n.printed;
        left = m.left ∙ ap (λ (l : List ℕ). m.lines ++ l) n.left ∙ sym (append_assoc m.lines n.lines _);
      }

  -- or ends the report
  pub turn_last : ((g : Register) → Stands g from → Prints q (days_due from.rest.now from.line g) r) → Prints p due r
  turn_last f = rw m.left (prints_then m.printed (f m.g m.stands))
