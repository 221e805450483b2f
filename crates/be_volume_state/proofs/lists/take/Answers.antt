use Rattle.std.proofs.Common.{◌≡◌, length, min, arith, take, drop}
use Rattle.be_volume_state.specs.Places.{left_from}
use Rattle.be_volume_state.proofs.Stepping.{cut, last_cut}
use Rattle.be_volume_state.proofs.lists.take.Goals as goal

pub returns-clause-list : goal.returns-clause-list
returns-clause-list c = λ volume.
    let given : c.replace.result.items ≡ take c.min.result c.args.place.now.ready.items = let e = c.in_ok-rest.ensures.items in let f = c.replace.ensures.value in cc in
    let rest : c.replace.new.dest.items ≡ drop c.min.result c.args.place.now.ready.items = let e = c.in_ok-rest.ensures.tail in let f = c.replace.ensures.after in cc in
    cut c.args.place.now.ready.items c.replace.result.items c.replace.new.dest.items (left_from volume c.args.place.now.step) c.min.result given rest

pub returns-clause-few : goal.returns-clause-few
returns-clause-few c = λ short.
    let given : c.replace.result.items ≡ take c.min.result c.args.place.now.ready.items = let e = c.in_ok-rest.ensures.items in let f = c.replace.ensures.value in cc in
    let rest : c.replace.new.dest.items ≡ drop c.min.result c.args.place.now.ready.items = let e = c.in_ok-rest.ensures.tail in let f = c.replace.ensures.after in cc in
    let least : c.min.result ≡ min (length c.args.place.now.ready.items) 64 = omega arith in
    last_cut c.args.place.now.ready.items c.replace.result.items c.replace.new.dest.items c.min.result least given rest short
