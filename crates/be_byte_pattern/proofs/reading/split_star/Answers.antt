use Rattle.be_byte_pattern.proofs.CanonicalStarts.{star_leaves}
use Rattle.be_byte_pattern.proofs.reading.split_star.Goals as goal

pub returns-in-Some-eq42-default-clause-star : goal.returns-in-Some-eq42-default-clause-star
returns-in-Some-eq42-default-clause-star c =
    star_leaves c.args.text.now c.in-Some-eq42-default.rest.now c.in-Some-eq42-default.field-0-0 c.in-Some-eq42-default.field-0-0-test c.in-Some-eq42-default.ensures.split
