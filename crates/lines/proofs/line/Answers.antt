-- `line` meets its contract: each exit is a law of `Words` about the line that the text begins with.
use Rattle.std.proofs.Common.{◌≡◌, ℕ, Bool, true, false, not, eqb, ◌+◌, List, [], length, get_or, drop, take, ◌-◌, refl, sym, ap, ◌∙◌, arith}
use Rattle.std.proofs.lemmas.Slice.{between_to_end}
use Rattle.std.specs.Cmp.Lexicographic.{pointwise}
use Rattle.methodology.specs.Text.{same, fields}
use Rattle.fields.proofs.SameBytes.{pointwise_same}
use Rattle.lines.proofs.Words.{other_word, no_room, no_row, line_past, line_length, line_long, line_good}
use Rattle.lines.proofs.line.Goals as goal
use Rattle.lines.proofs.line.Goals.{then-ne-via-then-ne, then-ne-via-else-ne+then-text-word}

not_not : (t : Bool) → not (not t) ≡ t
not_not true = refl
not_not false = refl

-- what the comparison with the word says of the line's first field
told : (text word first : List ℕ) {t : Bool} → first ≡ get_or (fields text) 0 [] → t ≡ not (pointwise eqb first word) → same (get_or (fields text) 0 []) word ≡ not t
told text word first e k =
    sym (ap not k ∙ not_not (pointwise eqb first word) ∙ pointwise_same first word ∙ ap (λ (l : List ℕ). same l word) e)

-- what the code cuts out after the word
cut : (text : List ℕ) (n : ℕ) → take (length text - (n + 1)) (drop (n + 1) text) ≡ drop (n + 1) text
cut text n = between_to_end text (n + 1) (length text) (omega arith)

pub returns-then-ne : goal.returns-then-ne
returns-then-ne c =
    let text = c.args.text.now in
    elim c.then-ne.branch [
      | then-ne-via-then-ne w ↦
          other_word c.args.word.now c.requires.word_value text _ _ c.requires.values_nonzero (told text _ _ c.field.ensures w.if-ne.ensures)
      | then-ne-via-else-ne+then-text-word w ↦
          no_room c.args.word.now c.requires.word_value text (told text _ _ c.field.ensures w.if-ne.ensures) _ _ w.if-text-word.true
    ]

pub returns-in_err-rest : goal.returns-in_err-rest
returns-in_err-rest c =
    let text = c.args.text.now in
    let word_is = told text c.args.word.now _ c.field.ensures c.if-ne.ensures in
    rw c.from_residual.ensures
    (no_row c.args.word.now c.requires.word_value text word_is c.if-text-word.false _ _ c.requires.values_nonzero _ (cut text _) c.in_err-rest.ensures)

pub overflow_sub-text : goal.overflow_sub-text
overflow_sub-text c =
    let text = c.args.text.now in
    let word_is = told text c.args.word.now _ c.field.ensures c.if-ne.ensures in
    let (read, rest) = c.in_ok-rest.ensures in
    omega (arith, ap length rest, line_length c.args.word.now c.requires.word_value text word_is c.if-text-word.false _ _ c.requires.values_nonzero _ (cut text _) _ read)

pub returns-then-text-rest : goal.returns-then-text-rest
returns-then-text-rest c =
    let text = c.args.text.now in
    let word_is = told text c.args.word.now _ c.field.ensures c.if-ne.ensures in
    let (read, rest) = c.in_ok-rest.ensures in
    line_long c.args.word.now c.requires.word_value text word_is c.if-text-word.false _ _ c.requires.values_nonzero _ (cut text _) _ read (rw rest at c.if-text-rest.true)

pub returns : goal.returns
returns c =
    let text = c.args.text.now in
    let word_is = told text c.args.word.now _ c.field.ensures c.if-ne.ensures in
    let (read, rest) = c.in_ok-rest.ensures in (
      line_good c.args.word.now c.requires.word_value text word_is c.if-text-word.false _ _ c.requires.values_nonzero _ (cut text _) _ read (rw rest at c.if-text-rest.false),
      rest ∙ line_past c.args.word.now c.requires.word_value text word_is c.if-text-word.false _ _ c.requires.values_nonzero _ (cut text _) _ read,
    )
