-- PROFILE 1.3 and 2.4, in worked cases: which sizes fit, the least and the greatest, and which do not.
use Rattle.std.specs.Prelude.{List, [], ◌∷◌, replicate}
use Rattle.profile.specs.Bytes.{Bytes}
use Rattle.profile.specs.Slot.{Some, Right, right_with, reserved, enabled, disabled, empty, taken, RightFits, SlotFits, TableFits}
use Rattle.profile.specs.Request.{setup, install, retrieve, rek, enable, remove, cancel, list, info, Installable, RequestFits}
use Rattle.profile.specs.CaseBytes.{hex, H1, H2, K, A, B}

-- a right of these
abbrev pub of : Bytes → List Bytes → Bytes → Right
of key hashes payload = right_with key (Some 7) hashes payload

-- the least right, the least that can be installed, and the greatest
abbrev pub least : Right
least = of K [] (hex "BC")

abbrev pub least_sent : Right
least_sent = of K (A ∷ []) (hex "BC")

abbrev pub most : Right
most = of K (A ∷ B ∷ A ∷ B ∷ A ∷ B ∷ A ∷ B ∷ []) (replicate 4096 0x5A)

-- hashes: nine; one of 19 bytes, one of 21
abbrev pub nine : List Bytes
nine = A ∷ B ∷ A ∷ B ∷ A ∷ B ∷ A ∷ B ∷ A ∷ []

abbrev pub short : List Bytes
short = A ∷ replicate 19 0x11 ∷ []

abbrev pub long : List Bytes
long = A ∷ replicate 21 0x11 ∷ []

-- handles of 9 and 11 bytes
abbrev pub H9 : Bytes
H9 = replicate 9 0x01

abbrev pub H11 : Bytes
H11 = replicate 11 0x01

pub record Hold : Type 0 where
  -- rights: a key of 16 bytes, at most 8 hashes of 20 bytes, a payload of 1 to 4,096 bytes
  pub least_fits : RightFits least
  pub most_fits : RightFits most
  pub key_15 : ¬ RightFits (of (replicate 15 0x11) [] (hex "BC"))
  pub key_17 : ¬ RightFits (of (replicate 17 0x11) [] (hex "BC"))
  pub hashes_9 : ¬ RightFits (of K nine (hex "BC"))
  pub hash_19 : ¬ RightFits (of K short (hex "BC"))
  pub hash_21 : ¬ RightFits (of K long (hex "BC"))
  pub payload_0 : ¬ RightFits (of K [] [])
  pub payload_4097 : ¬ RightFits (of K [] (replicate 4097 0x5A))
  -- slots: room for 1 to 4,096 bytes; handles of ten bytes
  pub empty_fits : SlotFits empty
  pub room_1 : SlotFits (taken H1 (reserved 1))
  pub room_4096 : SlotFits (taken H1 (reserved 4096))
  pub room_0 : ¬ SlotFits (taken H1 (reserved 0))
  pub room_4097 : ¬ SlotFits (taken H1 (reserved 4097))
  pub enabled_fits : SlotFits (taken H1 (enabled least))
  pub disabled_fits : SlotFits (taken H1 (disabled most))
  pub enabled_0 : ¬ SlotFits (taken H1 (enabled (of K [] [])))
  pub disabled_0 : ¬ SlotFits (taken H1 (disabled (of K [] [])))
  pub handle_9 : ¬ SlotFits (taken H9 (reserved 1))
  pub handle_11 : ¬ SlotFits (taken H11 (enabled least))
  -- tables: each slot
  pub table_fits : TableFits (empty ∷ taken H1 (reserved 1) ∷ taken H2 (enabled least) ∷ [])
  pub first_bad : ¬ TableFits (taken H1 (reserved 0) ∷ empty ∷ [])
  pub last_bad : ¬ TableFits (empty ∷ taken H1 (reserved 0) ∷ [])
  -- PROFILE 5.2: what can be installed: what fits, and has a hash
  pub least_sent_lem : Installable least_sent
  pub most_sent : Installable most
  pub no_hash : ¬ Installable least
  pub not_fitting : ¬ Installable (of K (A ∷ []) [])
  -- requests
  pub setup_fits : RequestFits (setup H1 0)
  pub install_fits : RequestFits (install H1 most)
  pub retrieve_fits : RequestFits (retrieve H1 H1)
  pub rek_fits : RequestFits (rek H1 H2)
  pub enable_fits : RequestFits (enable H1 (Some 65535))
  pub remove_fits : RequestFits (remove H1)
  pub cancel_fits : RequestFits (cancel H1)
  pub list_fits_lem : RequestFits (list 0 most.hashes)
  pub info_fits : RequestFits (info H1)
  pub setup_9 : ¬ RequestFits (setup H9 5)
  pub install_9 : ¬ RequestFits (install H9 least_sent)
  pub install_0 : ¬ RequestFits (install H1 (of K (A ∷ []) []))
  pub install_bare : ¬ RequestFits (install H1 least)
  pub retrieve_9 : ¬ RequestFits (retrieve H9 H2)
  pub retrieve_11 : ¬ RequestFits (retrieve H1 H11)
  pub rek_9 : ¬ RequestFits (rek H9 H2)
  pub rek_11 : ¬ RequestFits (rek H1 H11)
  pub enable_9 : ¬ RequestFits (enable H9 (Some 3))
  pub remove_9 : ¬ RequestFits (remove H9)
  pub cancel_11 : ¬ RequestFits (cancel H11)
  pub list_9 : ¬ RequestFits (list 0 nine)
  pub list_19 : ¬ RequestFits (list 0 short)
  pub info_11 : ¬ RequestFits (info H11)
