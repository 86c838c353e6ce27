-- `Accounts::split` meets its contract: the accounts before and after the end of m's.
use mathlib.Core.Path.{sym, ◌∙◌}
use Rattle.exposure.specs.AccountsIn.{slices_in}
use Rattle.exposure.proofs.Parts.{own_first, others_last}
use Rattle.exposure.proofs.accounts.Accounts.split.Goals as goal

pub returns-clause-own : goal.returns-clause-own
returns-clause-own c =
    let a = c.args.self.now in
    let found = c.first_other in
    let end = c.unwrap_or-end in
    let p = c.part.ensures.is in
    (p.0, p.1 ∙ sym (own_first a.k c.args.m (slices_in a) c.requires.rising c.requires.from found.result found.ensures end.result end.ensures))

pub returns-clause-others : goal.returns-clause-others
returns-clause-others c =
    let a = c.args.self.now in
    let found = c.first_other in
    let end = c.unwrap_or-end in
    let p = c.part-2.ensures.is in
    (p.0, p.1 ∙ sym (others_last a.k c.args.m (slices_in a) c.requires.rising c.requires.from found.result found.ensures end.result end.ensures))
