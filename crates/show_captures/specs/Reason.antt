-- Why a file cannot be opened or read.
use Rattle.std.specs.Prelude.{ℕ, ℤ, ◌&&◌, ◌<◌, List, [], ◌∷◌, ◌++◌, length, Option, Some, None, codes, nat_lt, unsigned_abs, if◌then◌else◌}
use Rattle.std.specs.Fmt.{decimal}
use Rattle.std.specs.List.{list_all}
use Rattle.link_base.specs.Labels.{name_in}
use Rattle.link_base.specs.WellFormed.{is_printable}
use Rattle.link_show.specs.Quoted.{quoted}

-- errors of open(2) and read(2) by number (include/uapi/asm-generic/errno.h), and their texts of strerror(3)
abbrev pub reasons : List (ℕ × List ℕ)
reasons =
    (1, codes "Operation not permitted") ∷
    (2, codes "No such file or directory") ∷
    (4, codes "Interrupted system call") ∷
    (5, codes "Input/output error") ∷
    (6, codes "No such device or address") ∷
    (11, codes "Resource temporarily unavailable") ∷
    (12, codes "Cannot allocate memory") ∷
    (13, codes "Permission denied") ∷
    (16, codes "Device or resource busy") ∷
    (19, codes "No such device") ∷
    (20, codes "Not a directory") ∷
    (21, codes "Is a directory") ∷
    (22, codes "Invalid argument") ∷
    (23, codes "Too many open files in system") ∷
    (24, codes "Too many open files") ∷
    (26, codes "Text file busy") ∷
    (27, codes "File too large") ∷
    (36, codes "File name too long") ∷
    (40, codes "Too many levels of symbolic links") ∷
    (75, codes "Value too large for defined data type") ∷
    (95, codes "Operation not supported") ∷
    (104, codes "Connection reset by peer") ∷
    (110, codes "Connection timed out") ∷
    (116, codes "Stale file handle") ∷ []

-- the text of an error number
abbrev pub number_text : ℕ → Option (List ℕ) → List ℕ
number_text n None = codes "error number " ++ decimal n
number_text n (Some text) = text

-- the reason, by the error number; if there is none, `what` cannot be done
abbrev pub reason_text : Option ℤ → List ℕ → List ℕ
reason_text None what = what
reason_text (Some errno) what = number_text (unsigned_abs errno) (name_in reasons (unsigned_abs errno))

-- the name of a file as it is, if it is printable ASCII and not empty; otherwise quoted
abbrev pub shown_name : List ℕ → List ℕ
shown_name name = if nat_lt 0 (length name) && list_all is_printable name then name else quoted name

-- the line for standard error that says why a file cannot be opened or read
abbrev pub reason_line : List ℕ → Option ℤ → List ℕ → List ℕ
reason_line name errno what = codes "nlshow: " ++ (shown_name name ++ (codes ": " ++ (reason_text errno what ++ 10 ∷ [])))
