-- What is left of a group that comes apart.
use Rattle.std.specs.Prelude.{◌≡◌, ◌⊎◌, false}
use Rattle.store_face.specs.Views.{StoreView}

-- A store is a base's: the group sees it as it is, or as not live, where its epoch was not read.
abbrev pub IsStoreOf : (store seen : StoreView) → Type 0
IsStoreOf store seen = (seen ≡ store) ⊎ (seen ≡ record store { live = false })
