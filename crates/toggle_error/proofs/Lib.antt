mod Halts
