-- `kind_of` meets its contract: a field of one byte is that byte alone, and its kind is computed.
use Rattle.std.proofs.Common.{refl, arith}
use Rattle.methodology.specs.Text.{bytes, same, kind_of}
use Rattle.fields.proofs.KindLetters.{kind_longer, kind_letter, kind_other_letter}
use Rattle.fields.proofs.kind_of.Goals as goal

pub returns-in-72 : goal.returns-in-72
unfolding kind_of bytes same
returns-in-72 c = rw (kind_letter c.args.field.now 72 (omega arith) (omega arith)) refl

pub returns-in-82 : goal.returns-in-82
unfolding kind_of bytes same
returns-in-82 c = rw (kind_letter c.args.field.now 82 (omega arith) (omega arith)) refl

pub returns-in-65 : goal.returns-in-65
unfolding kind_of bytes same
returns-in-65 c = rw (kind_letter c.args.field.now 65 (omega arith) (omega arith)) refl

pub returns-in-85 : goal.returns-in-85
unfolding kind_of bytes same
returns-in-85 c = rw (kind_letter c.args.field.now 85 (omega arith) (omega arith)) refl

pub returns-in_default : goal.returns-in_default
returns-in_default c = rw (kind_longer c.args.field.now (λ e. omega arith))

pub returns-in_default-2 : goal.returns-in_default-2
returns-in_default-2 c =
    rw (kind_other_letter c.args.field.now (omega arith) (λ e. omega arith) (λ e. omega arith) (λ e. omega arith) (λ e. omega arith))

pub returns-in_default-3 : goal.returns-in_default-3
returns-in_default-3 c = rw (kind_longer c.args.field.now (λ e. omega arith))
