-- `field` meets its contract: the bytes before the first tab are the first part.
use Rattle.std.proofs.Common.{◌≡◌, eqb, rules, tests}
use Rattle.std.specs.List.{position}
use Rattle.std.proofs.lemmas.Iterator.{YieldsList-from_slice}
use Rattle.std.proofs.lemmas.Iterator.Search.{position_from_yields_List}
use Rattle.methodology.specs.Text.{tab}
use Rattle.fields.proofs.Fronts.{part_first}
use Rattle.fields.proofs.field.Goals as goal

pub returns : goal.returns
returns c =
    let s = c.args.line.now in
    let found : c.position.result ≡ position (λ x. eqb x tab) s = position_from_yields_List (λ x. eqb x tab) _ _ _ c.position.ensures.ran (YieldsList-from_slice s cc) (λ x b q k. search (rules, tests)) in
    part_first tab s _ _ found c.unwrap_or-end.ensures
