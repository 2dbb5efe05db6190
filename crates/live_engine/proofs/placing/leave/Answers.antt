use Rattle.std.proofs.Common.{◌≡◌, inl, inr, ℕ, List, length, position, Option, Some, None, is_some, option_map, slice_get, IfSome, bytes_eq, sym, ap, subst, ◌∙◌}
use Rattle.std.specs.Map.{keys_of, lookup}
use Rattle.std.proofs.lemmas.Option.{none-some, same_Some, slice_get-map}
use Rattle.indexmap.proofs.MapLemmas.{Found-position}
use Rattle.map_defs.specs.Ops.{Name}
use Rattle.layer_tiles.specs.Layers.{LayerState}
use Rattle.map_edits.proofs.Looks.{none_there}
use Rattle.edit_plans.proofs.Positions.{position_at}
use Rattle.kept_map.specs.Maps.{source_in}
use Rattle.kept_map.specs.declared.maps.Item.{Item}
use Rattle.kept_map.specs.declared.maps.Item.TheVariants.{Source, Statement}
use Rattle.kept_map.specs.declared.maps.KeptMap.{KeptMap}
use Rattle.kept_map.proofs.SourceLayers.{source_is_some}
use Rattle.live_engine.specs.Puts.{stood_as, StoodFor}
use Rattle.live_engine.proofs.placing.leave.Goals as goal

-- an item that is found stands at the place of its name
stands_at : (es : List (List ℕ × Item)) (n : Name) (k : ℕ) (item : Item) → position (bytes_eq n) (keys_of es) ≡ Some k → lookup (bytes_eq n) es ≡ Some item → slice_get es k ≡ Some (n, item)
stands_at es n k item at found =
    both (slice_get es k) (sym (slice_get-map (λ (e : List ℕ × Item). e.0) es k) ∙ position_at n (keys_of es) k at)
    (sym (slice_get-map (λ (e : List ℕ × Item). e.1) es k) ∙ sym (Found-position (bytes_eq n) es k at).value ∙ found)
  where
    both : (o : Option (List ℕ × Item)) → option_map (λ (e : List ℕ × Item). e.0) o ≡ Some n → option_map (λ (e : List ℕ × Item). e.1) o ≡ Some item → o ≡ Some (n, item)
    both None own value = absurd (none-some n own)
    both (Some e) own value = λ j. Some (same_Some e.0 n own j, same_Some e.1 item value j)

module _ (m : KeptMap) (n : Name) (count : length m.sources.layers.items ≡ length m.sources.names.keys) where
  stood_for : (item : Item) (taken : Option (List ℕ × LayerState)) (k : ℕ) → position (bytes_eq n) (keys_of m.names.entries) ≡ Some k → lookup (bytes_eq n) m.names.entries ≡ Some item
      → option_map (λ (out : List ℕ × LayerState). out.1) taken ≡ source_in m.sources n → IfSome taken (λ (out : List ℕ × LayerState). out.0 ≡ n) → StoodFor m n (stood_as item taken k)
  stood_for (Statement written flats) taken k at found layer own = stands_at m.names.entries n k (Statement written flats) at found
  stood_for Source (Some (key, l)) k at found layer own = (stands_at m.names.entries n k Source at found, own, sym layer)
  stood_for Source None k at found layer own = inr (none_there (position (bytes_eq n) m.sources.names.keys) (sym (source_is_some m.sources n count) ∙ ap is_some (sym layer)), found)

pub returns-in-Some-clause-before : goal.returns-in-Some-clause-before
returns-in-Some-clause-before c =
    let m = c.args.map.now in
    let n = c.args.name.now in
    subst (StoodFor m n) (sym c.stood.ensures)
    (stood_for m n c.requires.count c.in-Some.item c.take_source-source.result c.in-Some.place (sym c.in-Some.ensures.index) (sym c.in-Some.ensures.value) c.take_source-source.ensures.out c.take_source-source.ensures.own)

pub returns-in-None-clause-before : goal.returns-in-None-clause-before
returns-in-None-clause-before c = inl (sym c.in-None.ensures.value)
