-- The modes of a CAN controller: their names and bits.
use Rattle.std.specs.Prelude.{◌≡◌, ◌-◌, ◌^◌, ℕ, List, [], ◌∷◌, codes, refl}
use Rattle.bitflags.specs.Sets.{Row, known_from, known_bits}
use Rattle.link_vlan_can.specs.declared.can_flags.CanCtrlModeFlags.{CanCtrlModeFlags}

-- the bits of a set of flags
abbrev pub mode_bits : CanCtrlModeFlags → ℕ
mode_bits flags = flags.0

-- CAN_CTRLMODE_LOOPBACK and the other flags, then an unnamed flag with all bits
abbrev pub mode_flags : List Row
mode_flags = (codes "Loopback", 1) ∷ (codes "ListenOnly", 2) ∷ (codes "TripleSampling", 4) ∷ (codes "OneShot", 8)
    ∷ (codes "BerrReporting", 16) ∷ (codes "Fd", 32) ∷ (codes "PresumeAck", 64) ∷ (codes "FdNonIso", 128)
    ∷ (codes "CcLen8Dlc", 256) ∷ (codes "TdcAuto", 512) ∷ (codes "TdcManual", 1024) ∷ (codes "Restricted", 2048)
    ∷ (codes "Xl", 4096) ∷ (codes "XlTdcAuto", 8192) ∷ (codes "XlTdcManual", 16384) ∷ (codes "XlTms", 32768)
    ∷ ([], 2 ^ 32 - 1) ∷ []

-- the bits with the kernel's names, without CAN_CTRLMODE_
abbrev pub mode_bit_names : List (ℕ × List ℕ)
mode_bit_names =
    (1, codes "LOOPBACK") ∷
    (2, codes "LISTENONLY") ∷
    (4, codes "3_SAMPLES") ∷
    (8, codes "ONE_SHOT") ∷
    (16, codes "BERR_REPORTING") ∷
    (32, codes "FD") ∷
    (64, codes "PRESUME_ACK") ∷
    (128, codes "FD_NON_ISO") ∷
    (256, codes "CC_LEN8_DLC") ∷
    (512, codes "TDC_AUTO") ∷
    (1024, codes "TDC_MANUAL") ∷
    (2048, codes "RESTRICTED") ∷
    (4096, codes "XL") ∷
    (8192, codes "XL_TDC_AUTO") ∷
    (16384, codes "XL_TDC_MANUAL") ∷
    (32768, codes "XL_TMS") ∷ []

-- every bit is known
pub every_mode_bit : known_bits mode_flags ≡ 2 ^ 32 - 1
unfolding known_from
every_mode_bit = refl
