-- A store that was read.
use Rattle.mesa_disk.specs.Story.{Story}
use Rattle.mesa_recover.specs.Opening.{IsOpenedAs}
use Rattle.mesa_recover.specs.declared.opened.Opened.{Opened}
use Rattle.mesa_recover.specs.Anew.{IsStatedAnew}

-- An opened store is what is read of it, and its disk's clock stands as it did at the call of read.
abbrev pub IsOpened : {D : Type 0} → Story → Opened D → Type 0
IsOpened story o = IsOpenedAs story o.catalog.catalogue o.last_run o.area o.number o.holds o.end o.since

-- Where its run begins, its catalogue is stated anew in the other area.
abbrev pub StatesAnew : {D : Type 0} → Opened D → Type 0
StatesAnew o = IsStatedAnew o.end o.number o.catalog.catalogue
