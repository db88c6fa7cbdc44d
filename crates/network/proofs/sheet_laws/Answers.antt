use Rattle.network.proofs.Sheets.{sheet_sound}
use Rattle.network.proofs.OwnSheets.{own_none, own_cut, own_more, own_done, own_lone}
use Rattle.network.proofs.sheet_laws.Goals as goal

pub returns : goal.returns
returns c = record { sound = sheet_sound; own_none = own_none; own_cut = own_cut; own_more = own_more; own_done = own_done; own_lone = own_lone }
