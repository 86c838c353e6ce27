-- `digits` meets its contract. The invariant: the field's number is that of what is left at index k, behind the k digits before it.
use Rattle.std.proofs.Common.{◌≡◌, ℕ, ◌<◌, ◌≤◌, true, List, length, take, get_or, arith, rules, get_or-take}
use Rattle.std.proofs.lemmas.List.{length-take-le}
use Rattle.methodology.specs.Text.{is_digit}
use Rattle.fields.proofs.DigitsRead.{digit_is, run_room, run_on}
use Rattle.fields.proofs.digits.Goals as goal

-- a byte of the part that is read stands in the text
in_text : (s : List ℕ) (most k : ℕ) → most ≤ length s → k < length (take most s) → (k < most) × (get_or (take most s) k 0 ≡ get_or s k 0)
in_text s most k m h =
    let less : k < most = omega (arith, length-take-le most s m) in
    (less, get_or-take most s k 0 less)

pub overflow_mul-value : goal.overflow_mul-value
overflow_mul-value c =
    let (less, same) = in_text c.args.text.now c.args.most c.loop-k.k c.requires.0 c.loop-k-test.true in
    omega (arith, run_room c.args.text.now c.loop-k.invariant (omega arith))

pub overflow_add-value : goal.overflow_add-value
overflow_add-value c =
    let (less, same) = in_text c.args.text.now c.args.most c.loop-k.k c.requires.0 c.loop-k-test.true in
    let digit : is_digit (get_or c.args.text.now c.loop-k.k 0) ≡ true = rw (← same) (search rules) in
    omega (arith, run_room c.args.text.now c.loop-k.invariant (omega arith), digit_is (get_or c.args.text.now c.loop-k.k 0) digit, c.from.ensures)

pub loop-k-preserved : goal.loop-k-preserved
loop-k-preserved c =
    let (less, same) = in_text c.args.text.now c.args.most c.loop-k.k c.requires.0 c.loop-k-test.true in
    let digit : is_digit (get_or c.args.text.now c.loop-k.k 0) ≡ true = rw (← same) (search rules) in
    rw (c.from.ensures, same) (run_on c.args.text.now c.loop-k.invariant (omega arith) (omega arith) digit)
