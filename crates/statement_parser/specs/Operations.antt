-- The operations by their names.
use Rattle.std.specs.Prelude.{Bool, List, [], ◌∷◌, ◌++◌, Option, None, is_some, find, codes, bytes_eq, if◌then◌else◌}
use Rattle.std.specs.List.{list_any}
use Rattle.map_nums.specs.declared.Stat.{Stat}
use Rattle.map_nums.specs.declared.Stat.TheVariants.{Sum, Product, Maximum, Minimum, Mean, Median, Majority, Minority, Variety}
use Rattle.map_words.specs.Bytes.{Text}
use Rattle.map_defs.specs.Ops.{Head, local_head, difference_head, ratio_head, rating_head, focal_head, zonal_head, form_head, direction_head, flow_head, spread_head, nearest_head, sight_head, region_head}
use Rattle.statement_parser.specs.Lines.{Manner}
use Rattle.statement_parser.specs.Forms.{form_row}
use Rattle.statement_parser.specs.declared.op.Form.{Form}
use Rattle.statement_parser.specs.declared.op.Form.TheVariants.{Linkage, Length, Partition, Frontage, Gradient, Aspect}
use Rattle.statement_parser.specs.declared.operation.Operation.{Operation}
use Rattle.statement_parser.specs.declared.operation.Operation.TheVariants.{Local, Difference, Ratio, Rating, Focal, Proximity, Neighbor, Insularity, Zonal, Incremental, Drainage}

abbrev pub stat_text : Stat → Text
stat_text Sum = codes "Sum"
stat_text Product = codes "Product"
stat_text Maximum = codes "Maximum"
stat_text Minimum = codes "Minimum"
stat_text Mean = codes "Mean"
stat_text Median = codes "Median"
stat_text Majority = codes "Majority"
stat_text Minority = codes "Minority"
stat_text Variety = codes "Variety"

abbrev pub form_text : Form → Text
form_text Linkage = codes "Linkage"
form_text Length = codes "Length"
form_text Partition = codes "Partition"
form_text Frontage = codes "Frontage"
form_text Gradient = codes "Gradient"
form_text Aspect = codes "Aspect"

-- an operation's name
abbrev pub operation_text : Operation → Text
operation_text (Local s) = codes "Local" ++ stat_text s
operation_text Difference = codes "LocalDifference"
operation_text Ratio = codes "LocalRatio"
operation_text Rating = codes "LocalRating"
operation_text (Focal s) = codes "Focal" ++ stat_text s
operation_text Proximity = codes "FocalProximity"
operation_text Neighbor = codes "FocalNeighbor"
operation_text Insularity = codes "FocalInsularity"
operation_text (Zonal s) = codes "Zonal" ++ stat_text s
operation_text (Incremental f) = codes "Incremental" ++ form_text f
operation_text Drainage = codes "IncrementalDrainage"

-- the operation that writes it
abbrev pub operation_of : Head → Operation
operation_of (local_head s ignoring) = Local s
operation_of difference_head = Difference
operation_of ratio_head = Ratio
operation_of (rating_head rs) = Rating
operation_of (focal_head s r) = Focal s
operation_of (zonal_head s) = Zonal s
operation_of (form_head f) = Incremental (form_row f)
operation_of direction_head = Drainage
operation_of flow_head = Drainage
operation_of (spread_head limit) = Proximity
operation_of (nearest_head limit) = Neighbor
operation_of (sight_head s) = Focal Sum
operation_of region_head = Insularity

-- all operations: no product is Focal or Zonal
abbrev pub operations : List Operation
operations =
    Local Sum ∷ Local Product ∷ Local Maximum ∷ Local Minimum ∷ Local Mean ∷ Local Median ∷ Local Majority ∷ Local Minority ∷ Local Variety
    ∷ Difference ∷ Ratio ∷ Rating
    ∷ Focal Sum ∷ Focal Maximum ∷ Focal Minimum ∷ Focal Mean ∷ Focal Median ∷ Focal Majority ∷ Focal Minority ∷ Focal Variety
    ∷ Proximity ∷ Neighbor ∷ Insularity
    ∷ Zonal Sum ∷ Zonal Maximum ∷ Zonal Minimum ∷ Zonal Mean ∷ Zonal Median ∷ Zonal Majority ∷ Zonal Minority ∷ Zonal Variety
    ∷ Incremental Linkage ∷ Incremental Length ∷ Incremental Partition ∷ Incremental Frontage ∷ Incremental Gradient ∷ Incremental Aspect ∷ Drainage ∷ []

-- the operation with this name
unfoldable pub find_operation : Text → Option Operation
find_operation t = find (λ o. bytes_eq (operation_text o) t) operations

-- a row of these has this name
abbrev pub has_row : List Operation → Text → Bool
has_row os t = list_any (λ o. bytes_eq (operation_text o) t) os

-- the operation with this name, where it is there
unfoldable pub operation_named : Manner → Text → Option Operation
operation_named m t = if has_row (Local Sum ∷ m.operations) t then find_operation t else None

abbrev pub is_operation : Manner → Text → Bool
is_operation m t = is_some (operation_named m t)
