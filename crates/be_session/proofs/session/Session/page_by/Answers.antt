use Rattle.std.proofs.Common.{◌∙◌, ℕ, List, Ok, ap, sym, arith, length}
use Rattle.std.specs.declared.option.Option.{Option}
use Rattle.be_order.specs.Ordered.{cursor_bytes, page, page_with}
use Rattle.be_store.specs.Passes.{volume_pinned}
use Rattle.be_session.proofs.Pages.{page_long, page_none}
use Rattle.be_session.proofs.session.Session.page_by.Goals as goal

pub move_to-requires-clause-long : goal.move_to-requires-clause-long
move_to-requires-clause-long c = page_long (volume_pinned c.args.self.now.knows) c.args.live.now.query c.args.order.by.now c.args.order.descending
    (cursor_bytes c.in_ok-position.position) c.args.order.most (page_with c.page_after.new.nodes.items (cursor_bytes c.page_after.new.key) c.in_ok-more.more)
    c.in_ok-more.ensures.page c.in_ok-position.ensures.long

pub move_to-requires-clause-none : goal.move_to-requires-clause-none
move_to-requires-clause-none c = λ none. sym c.in_ok-position.ensures.ok.1
    ∙ page_none (volume_pinned c.args.self.now.knows) c.args.live.now.query c.args.order.by.now c.args.order.descending
    (cursor_bytes c.in_ok-position.position) c.args.order.most (page_with c.page_after.new.nodes.items (cursor_bytes c.page_after.new.key) c.in_ok-more.more)
    c.in_ok-more.ensures.page none

pub returns-clause-page : goal.returns-clause-page
returns-clause-page c = record {
  wanted = c.requires.wanted;
  kind = c.args.kind;
  kind_is = c.requires.kind;
  begins = c.in_ok-position.ensures.ok.0;
  ends = c.move_to.ensures.kind;
  stays = λ empty. c.move_to.ensures.stays (omega (arith, c.len.ensures, c.page_after.new.nodes.ok.0, ap length empty));
  page_is = ap (λ k. page (volume_pinned c.args.self.now.knows) c.args.live.now.query c.args.order.by.now c.args.order.descending k c.args.order.most) (sym c.in_ok-position.ensures.ok.1)
      ∙ c.in_ok-more.ensures.page
      ∙ ap (λ (k : Option (List ℕ)). Ok (page_with c.page_after.new.nodes.items k c.in_ok-more.more)) (sym c.move_to.ensures.key);
}
