use Rattle.std.proofs.Common.{◌≡◌, ◌∙◌, ◌-◌, ◌≤◌, sym, ap, Some, None, Ok, length, arith, rules, is_ok, inr, refl}
use Rattle.std.proofs.ResultArms.{chosen}
use Rattle.std.proofs.Common.{append-nil}
use Rattle.be_pattern.specs.Match.{part_of, parts_of}
use Rattle.be_pattern.specs.Parse.{parts_after}
use Rattle.be_pattern.specs.Letters.{letters_in, letter_of, token_at}
use Rattle.be_pattern.proofs.Tokens.{beyond, after_more, no_token, one_token, ends_at, ends_well, parts_push}
use Rattle.be_pattern.proofs.parsing.parse.Goals as goal

pub returns-then-ending-ne0-clause-err : goal.returns-then-ending-ne0-clause-err
returns-then-ending-ne0-clause-err c =
    let within : length c.args.text.now ≤ length c.args.text.now = omega arith in
    inr (_, refl, ends_at c.args.text.now (length c.after_letters-ending.result.now) (c.after_letters-ending.ensures.ending (length c.args.text.now) within) c.if-ending-ne0.true, omega arith)

pub returns-in_default-2-clause-err : goal.returns-in_default-2-clause-err
returns-in_default-2-clause-err c =
    let i = c.tokens.invariant in
    let total = length c.args.text.now in
    let at = total - length c.tokens.rest.now in
    let within : total ≤ total = omega arith in
    let shorter = c.in-Some.ensures.shorter in
    let v : length c.in-Some.after.now ≤ total = omega arith in
    let none : token_at (letter_of at c.in-Some.letter) (letters_in total c.in-Some.after.now) ≡ None = rw c.in_default-2.is at (c.in_ok-token.ensures.token at total v) in inr (
      _,
      refl,
      ends_well c.args.text.now _ (c.after_letters-ending.ensures.ending total within) c.if-ending-ne0.false ∙ sym i.read
          ∙ ap (λ ls. beyond (parts_of c.tokens.tokens.items) (parts_after 0 ls)) (c.in-Some.ensures.some total i.within)
          ∙ ap (beyond (parts_of c.tokens.tokens.items)) (no_token (letter_of at c.in-Some.letter) (letters_in total c.in-Some.after.now) none),
      omega arith,
    )

pub tokens-preserved : goal.tokens-preserved
tokens-preserved c =
    let i = c.tokens.invariant in
    let total = length c.args.text.now in
    let at = total - length c.tokens.rest.now in
    let shorter = c.in-Some.ensures.shorter in
    let v : length c.in-Some.after.now ≤ total = omega arith in
    let pushed = chosen _ _ _ _ c.push.ensures.items (ap is_ok c.in_ok-push.was) in
    let some : token_at (letter_of at c.in-Some.letter) (letters_in total c.in-Some.after.now) ≡ Some (part_of c.in-Some-2.token, letters_in total c.in-Some-2.beyond.now) = rw c.in-Some-2.is at (c.in_ok-token.ensures.token at total v) in
    let less : length c.in-Some-2.beyond.now ≤ length c.in-Some.after.now = rw c.in-Some-2.is at c.in_ok-token.ensures.within in
    record {
      utf8 = search rules;
      within = omega arith;
      read = ap (λ ts. beyond (parts_of ts) (parts_after 0 (letters_in total c.in-Some-2.beyond.now))) pushed
          ∙ ap (λ ps. beyond ps (parts_after 0 (letters_in total c.in-Some-2.beyond.now))) (parts_push c.tokens.tokens.items c.in-Some-2.token)
          ∙ after_more (parts_of c.tokens.tokens.items) (part_of c.in-Some-2.token) (parts_after 0 (letters_in total c.in-Some-2.beyond.now))
          ∙ ap (beyond (parts_of c.tokens.tokens.items)) (sym (ap (parts_after 0) (c.in-Some.ensures.some total i.within) ∙ one_token (letter_of at c.in-Some.letter) (letters_in total c.in-Some.after.now) _ _ some))
          ∙ i.read;
    }

pub returns-clause-ok : goal.returns-clause-ok
returns-clause-ok c =
    let i = c.tokens.invariant in
    let total = length c.args.text.now in
    let within : total ≤ total = omega arith in
    ends_well c.args.text.now _ (c.after_letters-ending.ensures.ending total within) c.if-ending-ne0.false ∙ sym i.read
    ∙ ap (λ ls. beyond (parts_of c.tokens.tokens.items) (parts_after 0 ls)) (c.in_default.ensures.none total) ∙ ap Ok (append-nil (parts_of c.tokens.tokens.items))
