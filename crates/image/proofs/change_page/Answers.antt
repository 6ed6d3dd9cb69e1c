use Rattle.std.proofs.Common.{sym, ◌∙◌, length}
use Rattle.image.specs.Image.{image_of, in_page}
use Rattle.image.specs.Changing.{changed_place}
use Rattle.image.proofs.Fitting.{lengths_fit, lengths_unfit, on_fit, on_unfit, page_there, page_none}
use Rattle.image.proofs.change_page.Goals as goal

pub returns-then-values-bytes : goal.returns-then-values-bytes
returns-then-values-bytes g c =
    let s = c.args in
    sym (page_none (image_of s.values.now s.masks.now) (length s.bytes.now) s.number (changed_place g.rule s.bytes.now) c.if-values-bytes.true)

pub returns-then-masks-values : goal.returns-then-masks-values
returns-then-masks-values g c =
    let s = c.args in
    let i = image_of s.values.now s.masks.now in
    let rule = changed_place g.rule s.bytes.now in
    sym (page_there i (length s.bytes.now) s.number rule c.if-values-bytes.false ∙ on_unfit i (in_page (length s.bytes.now) s.number rule) (lengths_unfit i c.if-masks-values.true))

pub returns : goal.returns
returns g c =
    let s = c.args in
    let i = image_of s.values.now s.masks.now in
    let rule = changed_place g.rule s.bytes.now in
    c.change_places.ensures ∙ sym (page_there i (length s.bytes.now) s.number rule c.if-values-bytes.false ∙ on_fit i (in_page (length s.bytes.now) s.number rule) (lengths_fit i c.if-masks-values.false))
