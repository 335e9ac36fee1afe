-- `touched::count_wires` meets its contract: each byte has at most 8 ones, so that their sum fits. Assumes nothing.
use Rattle.std.proofs.Common.{rules, tests, ◌≤◌, arith, length, take, length-take}
use mathlib.Core.Path.{◌∙◌}
use lib.Count.{ones}
use Rattle.std.proofs.lemmas.Iterator.{YieldsList-from_slice, YieldsList-from_map}
use Rattle.std.proofs.lemmas.Iterator.Consumers.{YieldsList-at, sum_by_from_yields_List}
use Rattle.std.proofs.lemmas.Iterator.Adapters.{fits_from_length, at_most_from_yields_List}
use Rattle.wire_map.specs.WireMap.{map_size}
use Rattle.touched.proofs.Named.{ones_summed}
use Rattle.touched.proofs.count_wires.Goals as goal

pub sum-requires-clause-fits : goal.sum-requires-clause-fits
sum-requires-clause-fits c =
    let m = take map_size c.args.map.now in
    let n : length m ≤ map_size = omega (arith, length-take map_size c.args.map.now) in
    fits_from_length _ _ map_size _ (at_most_from_yields_List (YieldsList-at c.map.ensures.source (YieldsList-from_slice m c.iter.ensures.rest)) n) c.map.ensures.closure (omega arith) (λ x r q k. search (rules, tests))

pub returns : goal.returns
returns c =
    let m = take map_size c.args.map.now in
    sum_by_from_yields_List ones m c.map.result _ c.sum.ensures.ran
    (YieldsList-from_map _ ones (YieldsList-at c.map.ensures.source (YieldsList-from_slice m c.iter.ensures.rest)) c.map.ensures.closure (λ x r q k. search (rules, tests))) ∙ ones_summed m
