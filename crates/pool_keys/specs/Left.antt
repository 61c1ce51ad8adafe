-- What a stop may leave of a store: now, and at any moment since an earlier one. Where a store does
-- not tell its maps none is said to be left, so that what holds of each map that is left says
-- nothing of it.
use Rattle.std.specs.Prelude.{◌≡◌, ◌⊎◌, List, [], ◌∷◌, length, drop, Option, Some, None}
use Rattle.tier_outside.specs.Moments.{last}
use Rattle.store_face.specs.Tables.{Table}
use Rattle.store_face.specs.Views.{CrashMaps, StoreView, no_map}

-- the map is one of the two that a stop may leave at a moment
abbrev pub IsSide : CrashMaps → Table → Type 0
IsSide s t = (t ≡ s.before.table) ⊎ (t ≡ s.after.table)

-- a stop at one of these moments may leave the map
abbrev pub HaveSide : List CrashMaps → Table → Type 0
HaveSide [] t = ⊥
HaveSide (s ∷ ss) t = IsSide s t ⊎ HaveSide ss t

-- of moments that are told, the one now may leave the map
abbrev pub IsLeftBy : Option (List CrashMaps) → Table → Type 0
IsLeftBy None t = ⊥
IsLeftBy (Some ss) t = IsSide (last no_map ss) t

-- of moments that are told, the one now has this as its map before
abbrev pub IsBeforeBy : Option (List CrashMaps) → Table → Type 0
IsBeforeBy None t = ⊥
IsBeforeBy (Some ss) t = t ≡ (last no_map ss).before.table

-- of moments that are told, the last of the old ones or one that came since may leave the map
abbrev pub IsLeftSinceBy : (old new : Option (List CrashMaps)) → Table → Type 0
IsLeftSinceBy None new t = ⊥
IsLeftSinceBy (Some ss) None t = ⊥
IsLeftSinceBy (Some ss) (Some ts) t = IsSide (last no_map ss) t ⊎ HaveSide (drop (length ss) ts) t

-- a stop now may leave this map
abbrev pub IsLeft : StoreView → Table → Type 0
IsLeft v t = IsLeftBy v.moments t

-- this is the map of a live store; of one in doubt it is that without the last changes
abbrev pub IsBefore : StoreView → Table → Type 0
IsBefore v t = IsBeforeBy v.moments t

-- a stop at some moment from old to new may leave this map
abbrev pub IsLeftSince : (old new : StoreView) → Table → Type 0
IsLeftSince old new t = IsLeftSinceBy old.moments new.moments t

-- moments are told
abbrev pub AreTold : Option (List CrashMaps) → Type 0
AreTold None = ⊥
AreTold (Some ss) = Unit {0}

-- a store tells its maps
abbrev pub Tells : StoreView → Type 0
Tells v = AreTold v.moments
