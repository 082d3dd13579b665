use Rattle.std.proofs.Common.{rules, ap, ◌≡◌, ◌∙◌}
use Rattle.std.proofs.lemmas.Fn.{filter_same}
use Rattle.plist_base.proofs.DataLines.{is_dark}
use Rattle.plist_base.specs.DataText.{without_white}
use Rattle.plist_base.proofs.data.without_white_space.Goals as goal

pub returns-clause-bytes : goal.returns-clause-bytes
returns-clause-bytes c =
    let kept = filter_same _ is_dark _ (λ x b f' k. search rules) _ _ c.retain.ensures.filtered in
    let whole : c.extend_from_slice.new.self.items ≡ c.args.text.now = search rules in
    kept ∙ ap without_white whole
