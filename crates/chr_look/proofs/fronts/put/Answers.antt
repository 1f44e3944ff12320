use Rattle.std.proofs.Common.{◌∙◌, ap, map, sym, take}
use Rattle.chr_look.specs.FrontView.{front_view}
use Rattle.chr_look.proofs.Fronted.{mapped_in, mapped_take}
use Rattle.chr_look.proofs.fronts.put.Goals as goal

pub returns : goal.returns
returns g c =
    let put = rw c.as_slice.ensures.value at c.place_of-place.ensures.put in
    ap (map front_view) c.truncate.ensures.items ∙ mapped_take front_view c.insert.new.self.items 5
    ∙ ap (take 5) (ap (map front_view) c.in_ok-insert.ensures.items ∙ mapped_in front_view c.args.lists.now.items c.args.new c.place_of-place.result ∙ sym put)
