-- All rows of the table are sound.
use Rattle.std.proofs.Common.{◌≡◌, refl, true}
use Rattle.std.specs.List.{AllByRecursion, list_all}
use Rattle.cb_library.specs.CoreClasses.{core_classes}
use Rattle.cb_core.specs.Sound.{IsSound}
use Rattle.cb_core.proofs.SoundTests.{each}
use Rattle.cb_core.proofs.SoundClasses.{is_sound, sound}

tested : list_all is_sound core_classes ≡ true
tested = refl

pub all_sound : AllByRecursion IsSound core_classes
all_sound = each is_sound IsSound sound core_classes tested
