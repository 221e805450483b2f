use Rattle.std.proofs.Common.{arith, length, sym}
use Rattle.std.specs.Option.{option_copied, option_map}
use Rattle.be_ways.proofs.Counting.{are_keys, same_keys}
use Rattle.be_ways.proofs.way.counted.Goals as goal

pub about-about-requires : goal.about-about-requires
about-about-requires g c = (g.volume, c.kind_of.ensures.answers g.volume c.requires.1)

pub nodes_within-requires : goal.nodes_within-requires
nodes_within-requires g c = (g.volume, c.about-about.ensures.answers g.volume (c.kind_of.ensures.answers g.volume c.requires.1))

pub returns-clause-way : goal.returns-clause-way
returns-clause-way g c =
    let answers = c.about-about.ensures.answers g.volume (c.kind_of.ensures.answers g.volume c.requires.1) in
    let keys = c.keys-2.result in
    let high = option_map (λ high. high.items) c.args.walk.high in
    let nodes = c.put_in_order.new.numbers.items in
    let listed = are_keys g.volume keys.name.now keys.low.now (option_copied keys.high) c.clear.new.self.items c.nodes_within.new.found.items nodes c.clear.ensures.items
    (c.in_ok-nodes_within.ensures.has g.volume answers) (c.nodes_within.ensures.only g.volume answers)
    c.in_ok-put_in_order.ensures.keeps c.in_ok-put_in_order.ensures.only c.in_ok-put_in_order.ensures.rising in
    record {
      kind_is = sym (c.in-Some.ensures.answer g.volume c.requires.1);
      keys = same_keys g.volume keys.name.now c.args.walk.name keys.low.now c.args.walk.low.items (option_copied keys.high) high (length nodes) c.len.result
          c.keys-2.ensures.name c.keys-2.ensures.low c.keys-2.ensures.high (omega (arith, c.len.ensures, c.put_in_order.new.numbers.ok.0)) listed;
    }
