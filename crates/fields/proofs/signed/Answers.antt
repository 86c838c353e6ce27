-- `signed` meets its contract: the field's value is that of the number it begins with, or of the one after its minus.
use Rattle.std.proofs.Common.{◌≡◌, ◌<◌, ℕ, List, Bor, ap, ◌∙◌, arith}
use Rattle.std.proofs.lemmas.Int.{ints}
use Rattle.std.specs.Prelude.{Option, unwrap_or}
use Rattle.fields.proofs.Signs.{read_small, minus_fits, plain_some, minus_zero, minus_some, neither_none}
use Rattle.fields.proofs.signed.Goals as goal

-- what the reader of the number was given
given : (text : Bor (List ℕ)) {u : Bor (List ℕ)} {o p : Option (Bor (List ℕ))} → u ≡ unwrap_or o text → o ≡ p → u.now ≡ (unwrap_or p text).now
given text e k = ap (λ (b : Bor (List ℕ)). b.now) (e ∙ ap (λ (r : Option (Bor (List ℕ))). unwrap_or r text) k)

pub returns-in_err-value : goal.returns-in_err-value
returns-in_err-value c =
    rw c.from_residual.ensures (neither_none _ _ _ _ c.strip_prefix-unsigned.ensures.cases c.unwrap_or.ensures c.in_err-value.ensures)

pub overflow_cast-result : goal.overflow_cast-result
overflow_cast-result c =
    let small : c.in_ok-value.value < 10000000000000 = read_small _ _ _ c.in_ok-value.ensures.0 in
    omega (arith, ints)

pub overflow_cast-result-in-Some-2 : goal.overflow_cast-result-in-Some-2
overflow_cast-result-in-Some-2 c =
    let small : c.in_ok-value.value < 10000000000000 = read_small _ _ _ c.in_ok-value.ensures.0 in
    omega (arith, ints)

pub overflow_sub-result : goal.overflow_sub-result
overflow_sub-result c = minus_fits _ (read_small _ _ _ c.in_ok-value.ensures.0)

pub returns-in-None : goal.returns-in-None
returns-in-None c =
    let (e, k) = plain_some c.args.end c.args.text.now _ _ c.in-None.ensures.cases (given c.args.text c.unwrap_or.ensures c.in-None.is) c.in_ok-value.ensures.0 in
    (e, c.in_ok-value.ensures.1 ∙ k)

pub returns-in-Some : goal.returns-in-Some
returns-in-Some c =
    let m = c.in-Some.ensures.cases in
    minus_zero c.args.end c.args.text.now _ _ m.0 (given c.args.text c.unwrap_or.ensures c.in-Some.is ∙ m.1) c.in_ok-value.ensures.0 c.if-value-eq0.true

pub returns-in-Some-2 : goal.returns-in-Some-2
returns-in-Some-2 c =
    let m = c.in-Some-2.ensures.cases in
    let (e, k) = minus_some c.args.end c.args.text.now _ _ m.0 (given c.args.text c.unwrap_or.ensures c.in-Some-2.is ∙ m.1) c.in_ok-value.ensures.0 c.if-value-eq0.false in
    (e, c.in_ok-value.ensures.1 ∙ k)
