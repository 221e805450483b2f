use Rattle.std.proofs.Common.{◌≡◌, false, take, sym, arith, rules}
use Rattle.std.proofs.lemmas.List.{length-take-le}
use Rattle.be_value.specs.Key.{key}
use Rattle.be_value.specs.Name.{has_nul}
use Rattle.be_value.specs.declared.values.Value.TheVariants.{Cstr}
use Rattle.be_plan.proofs.LongTexts.{long_from, long_to}
use Rattle.be_plan.proofs.narrowing.narrow_by_long.Goals as goal

pub slice_bounds-front-end : goal.slice_bounds-front-end
slice_bounds-front-end c = sym (length-take-le 255 c.args.words.now (omega (arith, c.requires)))

pub returns-then-not-contains-clause-keeps : goal.returns-then-not-contains-clause-keeps
returns-then-not-contains-clause-keeps c = λ text n short h w.
    let clean : has_nul (take 255 c.args.words.now) ≡ false = search rules in
    c.lower_to-fits.ensures.keeps (key (Cstr text) n) (long_to c.args.words.now text n c.requires short c.args.op c.in-Lt.is clean h) w

pub returns-in-Gt-clause-keeps : goal.returns-in-Gt-clause-keeps
returns-in-Gt-clause-keeps c = λ text n short h w.
    c.raise_to-fits.ensures.keeps (key (Cstr text) n) (long_from c.args.words.now text n c.requires short c.args.op c.in-Gt.is h) w
