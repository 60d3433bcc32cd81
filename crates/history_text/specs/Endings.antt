-- The line that tells why the capture was not read as far as it was asked for.
use Rattle.std.specs.Prelude.{ℕ, List, [], ◌∷◌, codes}
use Rattle.std.specs.List.{concat}
use Rattle.capture_files.specs.declared.stop.CaptureKind.{CaptureKind}
use Rattle.capture_files.specs.declared.stop.CaptureKind.TheVariants as kinds
use Rattle.history_text.specs.declared.ending.Ending.{Ending}
use Rattle.history_text.specs.declared.ending.Ending.TheVariants as endings
use Rattle.history_text.specs.Forms.{filled}

abbrev pub kind_text : CaptureKind → List ℕ
kind_text kinds.HeaderCut = codes "header cut"
kind_text kinds.Magic = codes "magic"
kind_text kinds.Version = codes "version"
kind_text kinds.LinkType = codes "link type"
kind_text kinds.RecordCut = codes "record cut"
kind_text kinds.RecordLength = codes "record length"

-- the text of an ending, with its number written `0`; a capture that was read as far as it was asked for has none
abbrev pub ending_form : Ending → List ℕ
ending_form endings.Whole = []
ending_form (endings.Bad place kind) = concat (codes "capture: bad at byte 0: " ∷ kind_text kind ∷ codes "\n" ∷ [])
ending_form (endings.Large place) = codes "capture: too large at byte 0\n"
ending_form endings.ReadFault = codes "capture: read fault\n"

abbrev pub ending_numbers : Ending → List ℕ
ending_numbers endings.Whole = []
ending_numbers (endings.Bad place kind) = place ∷ []
ending_numbers (endings.Large place) = place ∷ []
ending_numbers endings.ReadFault = []

abbrev pub ending_text : Ending → List ℕ
ending_text ending = filled (ending_form ending) (ending_numbers ending)
