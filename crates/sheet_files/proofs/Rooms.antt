-- The rooms of the code take what is read of the files. Assumes nothing.
use Rattle.std.proofs.Common.{refl}
use Rattle.sheet_files.specs.Words.{RoomsTakeSheets}

pub rooms_take_sheets : RoomsTakeSheets
rooms_take_sheets = (refl, refl, refl)
