-- `last_missing` meets its contract: who is missing comes after the last account's member, who is one of n.
use Rattle.std.proofs.Common.{◌-◌, length, sym, ◌∙◌, arith}
use Rattle.validation.specs.Slices.{listed}
use Rattle.validation.proofs.Headings.{all_fine}
use Rattle.validation.proofs.Missing.{missing_is_after}
use Rattle.validation.proofs.last_missing.Goals as goal

pub passed_over-requires : goal.passed_over-requires
passed_over-requires c =
    let r = c.requires in
    let last = all_fine (listed c.args.opening.now) c.args.number c.args.headings.now r.none_bad (length c.args.headings.now - 1) (omega (arith, r.some)) in
    (omega (arith, last.most), omega arith, r.few)

pub returns : goal.returns
returns c =
    let r = c.requires in
    let headings = c.args.headings.now in
    let after = missing_is_after (listed c.args.opening.now) c.args.number headings r.none_bad (length headings - 1) (omega (arith, r.some)) in
    c.passed_over.ensures ∙ sym after
