use Rattle.kept_map.proofs.Copied.{seen_alike, kept_alike}
use Rattle.kept_map.proofs.maps.KeptMap.copy.Goals as goal

pub returns : goal.returns
returns c =
    let same = c.in_ok-fill.ensures in
    record { seen = seen_alike c.args.self.now c.fill.new.self same; kept = kept_alike c.args.self.now c.fill.new.self same c.requires }
