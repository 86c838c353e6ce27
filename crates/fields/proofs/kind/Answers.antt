-- `kind` meets its contract: the field is cut out where it ends, and each test is one that the definition makes.
use Rattle.std.proofs.Common.{◌≡◌, ℕ, List, length, get_or, ap, sym, ◌∙◌, arith, w64}
use Rattle.std.specs.Prelude.{Option}
use Rattle.std.specs.List.{position}
use Rattle.std.specs.Option.{unwrap_or}
use Rattle.numbers.proofs.Lists.{first_or_all}
use Rattle.numbers.proofs.Signed.{back_ok}
use Rattle.fields.specs.Fields.{stops, size, ender}
use Rattle.fields.proofs.Fronts.{rest_is}
use Rattle.fields.proofs.OneValue.{other_end, no_end}
use Rattle.fields.proofs.KindLetters.{kind_bad, kind_good}
use Rattle.fields.proofs.kind.Goals as goal

-- where `position` found the field's end, or that nothing ends it
end_is : (s : List ℕ) {o r : Option ℕ} → o ≡ position stops s → o ≡ r → size s ≡ unwrap_or r (length s)
end_is s found at = sym (first_or_all stops s) ∙ ap (λ (o : Option ℕ). unwrap_or o (length s)) (sym found ∙ at)

ender_is : (s : List ℕ) {i : ℕ} → size s ≡ i → ender s ≡ get_or s i 0
ender_is s e = ap (λ (n : ℕ). get_or s n 0) e

pub returns-in_err-size : goal.returns-in_err-size
returns-in_err-size c =
    let s = c.args.text.now in
    let all : size s ≡ length s = end_is s c.end_of.ensures c.in_err-size.was in
    rw c.from_residual.ensures (no_end _ _ s c.requires (omega arith))

pub returns-then-text-size : goal.returns-then-text-size
returns-then-text-size c =
    let s = c.args.text.now in
    let size_is = end_is s c.end_of.ensures c.in_ok-size.was in
    other_end _ _ s (λ e. c.if-text-size.true (sym (ender_is s size_is) ∙ e))

pub returns-then-is_foreign : goal.returns-then-is_foreign
returns-then-is_foreign c =
    let s = c.args.text.now in
    let size_is = end_is s c.end_of.ensures c.in_ok-size.was in
    kind_bad _ s _ size_is (ender_is s size_is ∙ c.if-text-size.false) (sym c.if-is_foreign.ensures)

pub returns : goal.returns
returns c =
    let s = c.args.text.now in
    let size_is = end_is s c.end_of.ensures c.in_ok-size.was in (
      kind_good _ s _ size_is (ender_is s size_is ∙ c.if-text-size.false) (sym c.if-is_foreign.ensures)
          (back_ok w64 c.kind_of.result c.kind_of.type_inv ∙ c.kind_of.ensures),
      rest_is s _ size_is,
    )
