-- The names of errors (`include/uapi/asm-generic/errno-base.h`, `errno.h`).
use Rattle.std.specs.Prelude.{ℕ, List, [], ◌∷◌, codes}

abbrev pub errno_names : List (ℕ × List ℕ)
errno_names =
    (1, codes "EPERM") ∷ (2, codes "ENOENT") ∷ (3, codes "ESRCH") ∷ (4, codes "EINTR") ∷
    (5, codes "EIO") ∷ (6, codes "ENXIO") ∷ (7, codes "E2BIG") ∷ (8, codes "ENOEXEC") ∷
    (9, codes "EBADF") ∷ (10, codes "ECHILD") ∷ (11, codes "EAGAIN") ∷ (12, codes "ENOMEM") ∷
    (13, codes "EACCES") ∷ (14, codes "EFAULT") ∷ (15, codes "ENOTBLK") ∷ (16, codes "EBUSY") ∷
    (17, codes "EEXIST") ∷ (18, codes "EXDEV") ∷ (19, codes "ENODEV") ∷ (20, codes "ENOTDIR") ∷
    (21, codes "EISDIR") ∷ (22, codes "EINVAL") ∷ (23, codes "ENFILE") ∷ (24, codes "EMFILE") ∷
    (25, codes "ENOTTY") ∷ (26, codes "ETXTBSY") ∷ (27, codes "EFBIG") ∷ (28, codes "ENOSPC") ∷
    (29, codes "ESPIPE") ∷ (30, codes "EROFS") ∷ (31, codes "EMLINK") ∷ (32, codes "EPIPE") ∷
    (33, codes "EDOM") ∷ (34, codes "ERANGE") ∷ (35, codes "EDEADLK") ∷ (36, codes "ENAMETOOLONG") ∷
    (37, codes "ENOLCK") ∷ (38, codes "ENOSYS") ∷ (39, codes "ENOTEMPTY") ∷ (40, codes "ELOOP") ∷
    (42, codes "ENOMSG") ∷ (43, codes "EIDRM") ∷ (44, codes "ECHRNG") ∷ (45, codes "EL2NSYNC") ∷
    (46, codes "EL3HLT") ∷ (47, codes "EL3RST") ∷ (48, codes "ELNRNG") ∷ (49, codes "EUNATCH") ∷
    (50, codes "ENOCSI") ∷ (51, codes "EL2HLT") ∷ (52, codes "EBADE") ∷ (53, codes "EBADR") ∷
    (54, codes "EXFULL") ∷ (55, codes "ENOANO") ∷ (56, codes "EBADRQC") ∷ (57, codes "EBADSLT") ∷
    (59, codes "EBFONT") ∷ (60, codes "ENOSTR") ∷ (61, codes "ENODATA") ∷ (62, codes "ETIME") ∷
    (63, codes "ENOSR") ∷ (64, codes "ENONET") ∷ (65, codes "ENOPKG") ∷ (66, codes "EREMOTE") ∷
    (67, codes "ENOLINK") ∷ (68, codes "EADV") ∷ (69, codes "ESRMNT") ∷ (70, codes "ECOMM") ∷
    (71, codes "EPROTO") ∷ (72, codes "EMULTIHOP") ∷ (73, codes "EDOTDOT") ∷ (74, codes "EBADMSG") ∷
    (75, codes "EOVERFLOW") ∷ (76, codes "ENOTUNIQ") ∷ (77, codes "EBADFD") ∷ (78, codes "EREMCHG") ∷
    (79, codes "ELIBACC") ∷ (80, codes "ELIBBAD") ∷ (81, codes "ELIBSCN") ∷ (82, codes "ELIBMAX") ∷
    (83, codes "ELIBEXEC") ∷ (84, codes "EILSEQ") ∷ (85, codes "ERESTART") ∷ (86, codes "ESTRPIPE") ∷
    (87, codes "EUSERS") ∷ (88, codes "ENOTSOCK") ∷ (89, codes "EDESTADDRREQ") ∷ (90, codes "EMSGSIZE") ∷
    (91, codes "EPROTOTYPE") ∷ (92, codes "ENOPROTOOPT") ∷ (93, codes "EPROTONOSUPPORT") ∷ (94, codes "ESOCKTNOSUPPORT") ∷
    (95, codes "EOPNOTSUPP") ∷ (96, codes "EPFNOSUPPORT") ∷ (97, codes "EAFNOSUPPORT") ∷ (98, codes "EADDRINUSE") ∷
    (99, codes "EADDRNOTAVAIL") ∷ (100, codes "ENETDOWN") ∷ (101, codes "ENETUNREACH") ∷ (102, codes "ENETRESET") ∷
    (103, codes "ECONNABORTED") ∷ (104, codes "ECONNRESET") ∷ (105, codes "ENOBUFS") ∷ (106, codes "EISCONN") ∷
    (107, codes "ENOTCONN") ∷ (108, codes "ESHUTDOWN") ∷ (109, codes "ETOOMANYREFS") ∷ (110, codes "ETIMEDOUT") ∷
    (111, codes "ECONNREFUSED") ∷ (112, codes "EHOSTDOWN") ∷ (113, codes "EHOSTUNREACH") ∷ (114, codes "EALREADY") ∷
    (115, codes "EINPROGRESS") ∷ (116, codes "ESTALE") ∷ (117, codes "EUCLEAN") ∷ (118, codes "ENOTNAM") ∷
    (119, codes "ENAVAIL") ∷ (120, codes "EISNAM") ∷ (121, codes "EREMOTEIO") ∷ (122, codes "EDQUOT") ∷
    (123, codes "ENOMEDIUM") ∷ (124, codes "EMEDIUMTYPE") ∷ (125, codes "ECANCELED") ∷ (126, codes "ENOKEY") ∷
    (127, codes "EKEYEXPIRED") ∷ (128, codes "EKEYREVOKED") ∷ (129, codes "EKEYREJECTED") ∷ (130, codes "EOWNERDEAD") ∷
    (131, codes "ENOTRECOVERABLE") ∷ (132, codes "ERFKILL") ∷ (133, codes "EHWPOISON") ∷ []
