-- The products from which GPF, GPL, SQR and OP start: what stands in 001's lines before MAC is stored.
use Rattle.std.specs.Prelude.{Bool, ℤ, pos, ◌+ℤ◌, ◌-ℤ◌, ◌*ℤ◌}
use Rattle.gte_arithmetic.specs.Values.{scale}
use Rattle.gte_arithmetic.specs.Triples.{Vector, Long, Wide}

-- [IR1, IR2, IR3] · IR0, for GPF
unfoldable pub scaled_of : Vector → ℤ → Wide
scaled_of i f = record { x = i.x *ℤ f; y = i.y *ℤ f; z = i.z *ℤ f }

-- the same plus [MAC1, MAC2, MAC3] SHL (sf·12), for GPL
unfoldable pub scaled_from : Vector → ℤ → Long → Bool → Wide
scaled_from i f m sf =
    record { x = i.x *ℤ f +ℤ m.x *ℤ pos (scale sf); y = i.y *ℤ f +ℤ m.y *ℤ pos (scale sf); z = i.z *ℤ f +ℤ m.z *ℤ pos (scale sf) }

-- [IR1-as-IR1, IR2-as-IR2, IR3-as-IR3], for SQR
unfoldable pub squares_of : Vector → Wide
squares_of i = record { x = i.x *ℤ i.x; y = i.y *ℤ i.y; z = i.z *ℤ i.z }

-- [IR3-as-D2 - IR2-as-D3, IR1-as-D3 - IR3-as-D1, IR2-as-D1 - IR1-as-D2], for OP
unfoldable pub cross_of : Vector → Vector → Wide
cross_of i d =
    record { x = i.z *ℤ d.y -ℤ i.y *ℤ d.z; y = i.x *ℤ d.z -ℤ i.z *ℤ d.x; z = i.y *ℤ d.x -ℤ i.x *ℤ d.y }
