use Rattle.std.proofs.Common.{◌≡◌, ◌++◌, ◌∷◌, ◌&&◌, ◌∙◌, [], true, ap, sym}
use Rattle.std.specs.Prelude.{encode_utf8_all, string_bytes}
use Rattle.std.proofs.lemmas.Bool.{and_parts, eq-eqb, ne_eqb}
use Rattle.be_pattern.proofs.Texts.{one_char, piece}
use Rattle.be_query_text.proofs.Folds.{are_plain_pairs, is_plain_char, others_among, others_skip, others_step, pairs_plain}
use Rattle.be_query_text.proofs.cases.others.Goals as goal

pub pairs-init : goal.pairs-init
pairs-init c = record {
  plain = ap are_plain_pairs c.fold_pairs-rest.ensures.table ∙ pairs_plain;
  so_far = ap (λ l. l ++ encode_utf8_all (others_among c.args.folded c.fold_pairs-rest.result.now)) c.new-others.ensures.bytes
      ∙ ap (λ ps. encode_utf8_all (others_among c.args.folded ps)) c.fold_pairs-rest.ensures.table;
}

pub pairs-preserved-in_ok-push_code : goal.pairs-preserved-in_ok-push_code
pairs-preserved-in_ok-push_code c =
    let e = c.in-Some.ensures.some in
    let pair = c.in-Some.pair in
    let after = c.in-Some.after.now in
    let old = string_bytes c.pairs.others in
    let plain : are_plain_pairs (pair ∷ after) ≡ true = sym (ap are_plain_pairs e) ∙ c.pairs.invariant.plain in
    record {
      plain = (and_parts (is_plain_char pair.0 && is_plain_char pair.1) (are_plain_pairs after) plain).1;
      so_far = piece old (string_bytes c.push_code.new.text) (pair.1 ∷ []) (others_among c.args.folded after) _ (one_char old (string_bytes c.push_code.new.text) pair.1 c.in_ok-push_code.ensures)
          (sym (ap (λ ps. old ++ encode_utf8_all (others_among c.args.folded ps)) e ∙ ap (λ l. old ++ encode_utf8_all l) (others_step c.args.folded pair after (eq-eqb pair.0 c.args.folded c.if-pair-folded.true))) ∙ c.pairs.invariant.so_far);
    }

pub pairs-preserved : goal.pairs-preserved
pairs-preserved c =
    let e = c.in-Some.ensures.some in
    let pair = c.in-Some.pair in
    let after = c.in-Some.after.now in
    let old = string_bytes c.pairs.others in
    let plain : are_plain_pairs (pair ∷ after) ≡ true = sym (ap are_plain_pairs e) ∙ c.pairs.invariant.plain in
    record {
      plain = (and_parts (is_plain_char pair.0 && is_plain_char pair.1) (are_plain_pairs after) plain).1;
      so_far = sym (ap (λ ps. old ++ encode_utf8_all (others_among c.args.folded ps)) e ∙ ap (λ l. old ++ encode_utf8_all l) (others_skip c.args.folded pair after (ne_eqb pair.0 c.args.folded c.if-pair-folded.false))) ∙ c.pairs.invariant.so_far;
    }
