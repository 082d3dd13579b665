use Rattle.std.proofs.Common.{◌∙◌}
use Rattle.plist_base.specs.DataText.{IsNoData}
use Rattle.plist_base.proofs.DataLines.{no_data, refused_as}
use Rattle.plist_base.proofs.data.Data.from_xml_format.Goals as goal

pub returns-in_err-bytes-clause-no_data : goal.returns-in_err-bytes-clause-no_data
returns-in_err-bytes-clause-no_data c =
    let left = c.deref.ensures.value ∙ c.in_ok-symbols.ensures.bytes in
    refused_as (IsNoData c.args.text.now) _ _ c.from_residual-in_err-bytes.ensures.1
    (no_data c.args.text.now _ _ left c.in_err-bytes.ensures.err)
