-- The numbers of the table's rows (this project's own), by the instructions' names in the RISC-V manual.
use Rattle.std.specs.Prelude.{ℕ}

abbrev pub LUI : ℕ
LUI = 0

abbrev pub AUIPC : ℕ
AUIPC = 1

abbrev pub JAL : ℕ
JAL = 2

abbrev pub JALR : ℕ
JALR = 3

abbrev pub BEQ : ℕ
BEQ = 4

abbrev pub BNE : ℕ
BNE = 5

abbrev pub BLT : ℕ
BLT = 6

abbrev pub BGE : ℕ
BGE = 7

abbrev pub BLTU : ℕ
BLTU = 8

abbrev pub BGEU : ℕ
BGEU = 9

abbrev pub LB : ℕ
LB = 10

abbrev pub LH : ℕ
LH = 11

abbrev pub LW : ℕ
LW = 12

abbrev pub LBU : ℕ
LBU = 13

abbrev pub LHU : ℕ
LHU = 14

abbrev pub SB : ℕ
SB = 15

abbrev pub SH : ℕ
SH = 16

abbrev pub SW : ℕ
SW = 17

abbrev pub ADDI : ℕ
ADDI = 18

abbrev pub SLTI : ℕ
SLTI = 19

abbrev pub SLTIU : ℕ
SLTIU = 20

abbrev pub XORI : ℕ
XORI = 21

abbrev pub ORI : ℕ
ORI = 22

abbrev pub ANDI : ℕ
ANDI = 23

abbrev pub SLLI : ℕ
SLLI = 24

abbrev pub SRLI : ℕ
SRLI = 25

abbrev pub SRAI : ℕ
SRAI = 26

abbrev pub ADD : ℕ
ADD = 27

abbrev pub SLL : ℕ
SLL = 28

abbrev pub SLT : ℕ
SLT = 29

abbrev pub SLTU : ℕ
SLTU = 30

abbrev pub XOR : ℕ
XOR = 31

abbrev pub SRL : ℕ
SRL = 32

abbrev pub OR : ℕ
OR = 33

abbrev pub AND : ℕ
AND = 34

abbrev pub SUB : ℕ
SUB = 35

abbrev pub SRA : ℕ
SRA = 36

abbrev pub MUL : ℕ
MUL = 37

abbrev pub MULH : ℕ
MULH = 38

abbrev pub MULHSU : ℕ
MULHSU = 39

abbrev pub MULHU : ℕ
MULHU = 40

abbrev pub DIV : ℕ
DIV = 41

abbrev pub DIVU : ℕ
DIVU = 42

abbrev pub REM : ℕ
REM = 43

abbrev pub REMU : ℕ
REMU = 44

abbrev pub FENCE : ℕ
FENCE = 45

abbrev pub ECALL : ℕ
ECALL = 46

abbrev pub EBREAK : ℕ
EBREAK = 47
